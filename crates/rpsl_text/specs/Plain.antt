-- An object's attributes as they are read: each run of blanks and tabs in a value as one blank, and none at its ends.
use Rattle.std.specs.Prelude.{ℕ, List, [], map}
use Rattle.reg_entry.specs.declared.object.Object.{Object}
use Rattle.rpsl_text.specs.Lines.{words, with_words}
use Rattle.rpsl_text.specs.Object.{attributes_of}

abbrev pub plain_attribute : List ℕ × List ℕ → List ℕ × List ℕ
plain_attribute a = (a.0, with_words [] (words a.1))

abbrev pub plain_attributes : Object → List ℕ → List (List ℕ × List ℕ)
plain_attributes o source = map plain_attribute (attributes_of o source)
