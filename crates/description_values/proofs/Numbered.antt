-- The lines of an export list that was read number its entries.
use Rattle.std.proofs.Common.{ℕ, ◌+◌, ◌<◌, ◌≤◌, Bool, true, List, [], ◌∷◌, ◌++◌, length, length-append, Ok, subst, sym, arith}
use Rattle.std.specs.Prelude.{All}
use Rattle.std.proofs.lemmas.List.Elements.{All-push, All-weaker}
use Rattle.cm_base.specs.declared.diag.Place.{Place}
use Rattle.cm_conditions.specs.declared.line.Line.{Line}
use Rattle.cm_conditions.specs.declared.line.LineBody.{LineBody}
use Rattle.cm_conditions.specs.declared.line.LineBody.TheVariants as body
use Rattle.cm_description.specs.Answers.{ReadsDescription}
use Rattle.cm_description.specs.Grammar.{item}
use Rattle.cm_description.specs.WellFormed.{IsItemBelow}
use Rattle.cm_description.specs.declared.description.Description.{Description}
use Rattle.cm_description.specs.declared.description.Entry.{Entry}
use Rattle.cm_description.proofs.Good.{Good, IsGoodBody, IsGoodEntry, description_good}

-- an item stays below more
more_items : (n m : ℕ) → n ≤ m → (b : LineBody) → IsItemBelow n b → IsItemBelow m b
more_items n m le (body.Item number) below = omega (arith, le, below)
more_items n m le (body.If cond) below = tt
more_items n m le (body.Elif cond) below = tt
more_items n m le body.Else below = tt
more_items n m le body.Endif below = tt
more_items n m le (body.Error text) below = tt

-- a directive is no item
no_item : (n : ℕ) (modules : Bool) (b : LineBody) → IsGoodBody modules b → IsItemBelow n b
no_item n modules (body.Item number) good = absurd good
no_item n modules (body.If cond) good = tt
no_item n modules (body.Elif cond) good = tt
no_item n modules body.Else good = tt
no_item n modules body.Endif good = tt
no_item n modules (body.Error text) good = tt

-- the lines of good items number them
below_all : {A : Type 0} (IsGood : A → Type 0) (at : A → Place) (modules : Bool) (items : List A) (lines : List Line)
    → Good IsGood at modules items lines → All (λ (line : Line). IsItemBelow (length items) line.body) lines
below_all IsGood at modules items lines Good.none = λ k d below. absurd (omega (arith, below))
below_all IsGood at modules items lines (Good.one before earlier a rest good) =
    let long = length-append before (a ∷ []) in
    All-push (λ (line : Line). IsItemBelow (length (before ++ a ∷ [])) line.body) earlier (item (at a) (length before))
    (All-weaker (λ (line : Line). IsItemBelow (length before) line.body)
    (λ (line : Line). IsItemBelow (length (before ++ a ∷ [])) line.body)
    (λ line below. more_items (length before) (length (before ++ a ∷ [])) (omega (arith, long)) line.body below) earlier
    (below_all IsGood at modules before earlier rest))
    (omega (arith, long))
below_all IsGood at modules items lines (Good.other same earlier l rest good) =
    All-push (λ (line : Line). IsItemBelow (length same) line.body) earlier l
    (below_all IsGood at modules same earlier rest) (no_item (length same) modules l.body good)

pub items_numbered : (file text : List ℕ) (d : Description) → ReadsDescription file text (Ok d)
    → All (λ (line : Line). IsItemBelow (length d.entries) line.body) d.export_lines
items_numbered file text d (small, is, kept) =
    below_all IsGoodEntry (λ (e : Entry). e.at) true d.entries d.export_lines (description_good file text d is).exports
