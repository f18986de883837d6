-- The numbers of denials and causes, and what an answer tells: its word, its transaction, its cause.
-- A reader must believe these tables; every promise that speaks of a number uses them.
use Rattle.std.specs.Prelude.{ℕ, cond, List, codes, ◌==◌}
use Rattle.answers.specs.declared.denial.Denial.{Denial}
use Rattle.answers.specs.declared.denial.Denial.TheVariants.{OutOfRange, NoSuchParty, AboveThree, NotStanding, NotRecalled, Identical, UserFull, NoRecordPlace, NoNumberLeft, NoneThere, TimerDue, NoneDue, NoFreePlace, NotLawful, NotALine}
use Rattle.answers.specs.declared.cause.Cause.{Cause}
use Rattle.answers.specs.declared.cause.Cause.TheVariants.{NotGiven, T3Over, T4Over, T7Over, T9Over, Withdrawn, ShortTermDenial, LongTermDenial, Completed, BusyAgain, CallReturned, MessageReturned}
use Rattle.answers.specs.declared.answer.Answer.{Answer}
use Rattle.answers.specs.declared.answer.Answer.TheVariants.{Requested, Accepted, Recall, Suspended, Kept, Calling, Stray, Nothing, Stored, Rejected, Freed, Resumed, Ended, Done}

abbrev pub denial_number : Denial → ℕ
denial_number OutOfRange = 1
denial_number NoSuchParty = 2
denial_number AboveThree = 3
denial_number NotStanding = 4
denial_number NotRecalled = 5
denial_number Identical = 6
denial_number UserFull = 7
denial_number NoRecordPlace = 8
denial_number NoNumberLeft = 9
denial_number NoneThere = 10
denial_number TimerDue = 11
denial_number NoneDue = 12
denial_number NoFreePlace = 13
denial_number NotLawful = 14
denial_number NotALine = 15

abbrev pub cause_number : Cause → ℕ
cause_number NotGiven = 0
cause_number T3Over = 1
cause_number T4Over = 2
cause_number T7Over = 3
cause_number T9Over = 4
cause_number Withdrawn = 5
cause_number ShortTermDenial = 6
cause_number LongTermDenial = 7
cause_number Completed = 8
cause_number BusyAgain = 9
cause_number CallReturned = 10
cause_number MessageReturned = 11

-- the cause that a number tells; one above 11 tells none
abbrev pub cause_of : ℕ → Cause
cause_of n =
    cond (n == 1) T3Over
    (cond (n == 2) T4Over
    (cond (n == 3) T7Over
    (cond (n == 4) T9Over
    (cond (n == 5) Withdrawn
    (cond (n == 6) ShortTermDenial
    (cond (n == 7) LongTermDenial
    (cond (n == 8) Completed
    (cond (n == 9) BusyAgain
    (cond (n == 10) CallReturned
    (cond (n == 11) MessageReturned NotGiven))))))))))

abbrev pub answer_word : Answer → List ℕ
answer_word (Requested n) = codes "requested"
answer_word (Accepted n) = codes "accepted"
answer_word (Recall n) = codes "recall"
answer_word (Suspended n) = codes "suspended"
answer_word (Kept n) = codes "kept"
answer_word (Calling n) = codes "calling"
answer_word (Stray n) = codes "stray"
answer_word (Nothing n) = codes "nothing"
answer_word (Stored n) = codes "stored"
answer_word (Rejected n c) = codes "rejected"
answer_word (Freed n) = codes "freed"
answer_word (Resumed n) = codes "resumed"
answer_word (Ended n c) = codes "ended"
answer_word Done = codes "done"

abbrev pub answer_transaction : Answer → ℕ
answer_transaction (Requested n) = n
answer_transaction (Accepted n) = n
answer_transaction (Recall n) = n
answer_transaction (Suspended n) = n
answer_transaction (Kept n) = n
answer_transaction (Calling n) = n
answer_transaction (Stray n) = n
answer_transaction (Nothing n) = n
answer_transaction (Stored n) = n
answer_transaction (Rejected n c) = n
answer_transaction (Freed n) = n
answer_transaction (Resumed n) = n
answer_transaction (Ended n c) = n
answer_transaction Done = 0

abbrev pub answer_cause : Answer → Cause
answer_cause (Requested n) = NotGiven
answer_cause (Accepted n) = NotGiven
answer_cause (Recall n) = NotGiven
answer_cause (Suspended n) = NotGiven
answer_cause (Kept n) = NotGiven
answer_cause (Calling n) = NotGiven
answer_cause (Stray n) = NotGiven
answer_cause (Nothing n) = NotGiven
answer_cause (Stored n) = NotGiven
answer_cause (Rejected n c) = c
answer_cause (Freed n) = NotGiven
answer_cause (Resumed n) = NotGiven
answer_cause (Ended n c) = c
answer_cause Done = NotGiven
