-- Words for one record, in which what is asked of the records is told.
-- Each is the test that a rule makes of every record.
use Rattle.std.specs.Prelude.{ℕ, Bool, ◌&&◌, ◌==◌}
use Rattle.messages.specs.declared.service.Service.{Service}
use Rattle.a_side.specs.declared.record.ARecord.{ARecord}
use Rattle.a_side.specs.Rules.{recalled_or_calling, same_service}

-- it makes the user CCBS-busy
abbrev pub engages : ℕ → ARecord → Bool
engages user r = r.user == user && recalled_or_calling r.state

-- it is the user's
abbrev pub of_user : ℕ → ARecord → Bool
of_user user r = r.user == user

-- it is the user's, of this destination and this service
abbrev pub same : ℕ → ℕ → Service → ARecord → Bool
same user destination service r = r.user == user && r.destination == destination && same_service r.service service
