-- The words that were read, and what the command of them is.
use Rattle.std.proofs.Common.{◌≡◌, ◌⊎◌, Option, Some, inl, inr, arith}
use Rattle.command_words.specs.declared.command.Command.{Command}

-- what was read is the command that the words are
pub is_command : (read told : Option Command) (command other : Command) → read ≡ Some command → read ≡ told → told ≡ Some other → command ≡ other
is_command read told command other some is same = grind (arith, some, is, same)

-- one of two is one of three
pub first_or_second : (A B C : Type 0) → A ⊎ B → A ⊎ B ⊎ C
first_or_second A B C (inl a) = inl a
first_or_second A B C (inr b) = inr (inl b)

pub first_or_last : (A B C : Type 0) → A ⊎ C → A ⊎ B ⊎ C
first_or_last A B C (inl a) = inl a
first_or_last A B C (inr c) = inr (inr c)
