-- What holds of descriptions as texts, whoever reads them.
use Rattle.std.specs.Prelude.{◌≡◌, ℕ, List, Ok}
use Rattle.cm_base.specs.declared.diag.Diag.{Diag}
use Rattle.grammars.specs.Laws.{IsLawful}
use Rattle.cm_description.specs.Grammar.{description}
use Rattle.cm_description.specs.Answers.{IsDescription, IsRefusal, ReadsDescription}
use Rattle.cm_description.specs.declared.description.Description.{Description}

-- the grammar obeys the laws of grammars, whatever the file and the text
abbrev pub AreLawful : Type 0
AreLawful = (file text : List ℕ) → IsLawful (description file text)

-- a text is one description at most
abbrev pub HasOneDescription : Type 0
HasOneDescription = (file text : List ℕ) (d e : Description) → IsDescription file text d → IsDescription file text e
    → d ≡ e

-- a text is refused with one diagnostic at most, and then it isn't a description within its limits
abbrev pub HasOneAnswer : Type 0
HasOneAnswer = (file text : List ℕ) (d : Diag) → IsRefusal file text d
    → ((e : Diag) → IsRefusal file text e → d ≡ e) × ((a : Description) → ReadsDescription file text (Ok a) → ⊥)
