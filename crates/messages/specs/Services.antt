-- The numbers of the services.
use Rattle.std.specs.Prelude.{ℕ, cond, ◌==◌}
use Rattle.messages.specs.declared.service.Service.{Service}
use Rattle.messages.specs.declared.service.Service.TheVariants.{NotGiven, Audio, Speech, Digital}

abbrev pub service_number : Service → ℕ
service_number NotGiven = 0
service_number Audio = 1
service_number Speech = 2
service_number Digital = 3

-- the service of a number; one above 3 gives none
abbrev pub service_of : ℕ → Service
service_of n = cond (n == 1) Audio (cond (n == 2) Speech (cond (n == 3) Digital NotGiven))

-- one that is not given is taken as 3.1 kHz audio
abbrev pub service_meant : Service → Service
service_meant NotGiven = Audio
service_meant Audio = Audio
service_meant Speech = Speech
service_meant Digital = Digital
