-- Each message that a side sends, by its kind and the numbers that the kind uses.
-- An unused number is 0.
use Rattle.std.specs.Prelude.{ℕ, Bool, ◌==◌}
use Rattle.messages.specs.declared.kind.Kind.{Kind}
use Rattle.messages.specs.declared.kind.Kind.TheVariants.{Request, Cancel}
use Rattle.messages.specs.declared.values.Values.{Values}
use Rattle.messages.specs.Kinds.{letter_of}

-- a message other than a request: its transaction, retention and cause
abbrev pub numbered : Kind → ℕ → ℕ → ℕ → Values
numbered kind tn retention cause = record { kind = kind; tn = tn; user = 0; destination = 0; service = 0; retention = retention; cause = cause }

abbrev pub plain : Kind → ℕ → Values
plain kind tn = numbered kind tn 0 0

abbrev pub requesting : ℕ → ℕ → ℕ → ℕ → ℕ → Values
requesting tn user destination service retention = record { kind = Request; tn = tn; user = user; destination = destination; service = service; retention = retention; cause = 0 }

abbrev pub cancelling : ℕ → ℕ → Values
cancelling tn cause = numbered Cancel tn 0 cause

-- two kinds are one
abbrev pub same_kind : Kind → Kind → Bool
same_kind x y = letter_of x == letter_of y
