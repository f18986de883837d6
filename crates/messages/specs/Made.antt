-- A message as its seven values: what a made message says, and when one is made.
-- Promises speak of a message by its values, since two messages of the same values are the same.
use Rattle.std.specs.Prelude.{cond, Ok, Err, Result}
use Rattle.answers.specs.declared.denial.Denial.{Denial}
use Rattle.answers.specs.declared.denial.Denial.TheVariants.{NotLawful}
use Rattle.messages.specs.declared.message.Message.{Message}
use Rattle.messages.specs.declared.values.Values.{Values}
use Rattle.messages.specs.Lawful.{is_lawful}

abbrev pub said : {E : Type 0} → Result Message E → Result Values E
said (Ok m) = Ok m.values
said (Err e) = Err e

-- a message if the values are lawful, else the denial 14
abbrev pub lawfully : Values → Result Values Denial
lawfully v = cond (is_lawful v) (Ok v) (Err NotLawful)
