-- Infix status as a value: which names are infix at a place, and which operators may stand together in a run (The
-- Definition of Standard ML, section 2.6).
use Rattle.std.specs.Prelude.{ℕ, ◌==◌, ◌&&◌, ◌++◌, ◌-◌, Bool, true, false, not, Option, None, Some, List, [], ◌∷◌, take, drop, nat_eq, nat_lt, codes, if◌then◌else◌, filter}
use Rattle.std.specs.List.{list_any}
use lib.Pointwise.{pointwise}
use Rattle.sml_trees.specs.declared.full_pat.Fixity.{Fixity}
use Rattle.infix_names.specs.declared.fixity.Status.{Status}

-- What was declared up to a place, in the order of the text: the status of a name is that of its last entry.
abbrev pub Fixities : Type 0
Fixities = List Status

-- the status that entries give to a name which had this one before them
abbrev pub status_from : Option Fixity → Fixities → List ℕ → Option Fixity
status_from held [] name = held
status_from held (status ∷ fs) name = status_from (if pointwise nat_eq status.name name then status.fixity else held) fs name

-- how a name binds as an infix operator; none where it isn't infix
unfoldable pub fixity_of : Fixities → List ℕ → Option Fixity
fixity_of fs name = status_from None fs name

abbrev pub entry : Bool → ℕ → List ℕ → Status
entry right strength name = record { name = name; fixity = Some (record { strength = strength; right = right }) }

-- ---- what holds at the beginning of a source: the initial basis' directives, by their strength

abbrev pub products : Fixities
products =
    entry false 7 (codes "/") ∷ entry false 7 (codes "*") ∷ entry false 7 (codes "div") ∷ entry false 7 (codes "mod") ∷ []

abbrev pub sums : Fixities
sums = entry false 6 (codes "+") ∷ entry false 6 (codes "-") ∷ entry false 6 (codes "^") ∷ []

abbrev pub lists : Fixities
lists = entry true 5 (codes "::") ∷ entry true 5 (codes "@") ∷ []

abbrev pub comparisons : Fixities
comparisons =
    entry false 4 (codes "=") ∷ entry false 4 (codes "<>") ∷ entry false 4 (codes ">") ∷ entry false 4 (codes ">=")
    ∷ entry false 4 (codes "<") ∷ entry false 4 (codes "<=") ∷ []

abbrev pub assignments : Fixities
assignments = entry false 3 (codes ":=") ∷ entry false 3 (codes "o") ∷ entry false 0 (codes "before") ∷ []

unfoldable pub initial : Fixities
initial = products ++ (sums ++ (lists ++ (comparisons ++ assignments)))

-- ---- scopes

-- What holds after a scope that began behind `start` entries: what held before it, and of what was declared in it the
-- part behind `kept` entries.
abbrev pub left_over : ℕ → ℕ → Fixities → Fixities
left_over start kept fs = take start fs ++ drop (kept - start) (drop start fs)

-- ---- operators of a run

abbrev pub if_name : Fixities → Option (List ℕ) → Option Fixity
if_name fs None = None
if_name fs (Some name) = fixity_of fs name

-- Of the operators of a run those behind which only stronger ones stand: an operator of the run can clash with these
-- alone. There is one at most of each strength.
abbrev pub open_after : List Fixity → Fixity → List Fixity
open_after ops f = filter (λ op. nat_lt op.strength f.strength) ops ++ f ∷ []

-- whether one is so and the other isn't
abbrev pub differ : Bool → Bool → Bool
differ true other = not other
differ false other = other

-- whether two operators bind equally strongly, from different sides
abbrev pub clashes : Fixity → Fixity → Bool
clashes f op = (op.strength == f.strength) && differ op.right f.right

-- Whether an operator may not stand behind the operators of a run: it binds as strongly as one of those that are open,
-- from the other side.
unfoldable pub clash : Fixity → List Fixity → Bool
clash f ops = list_any (clashes f) ops

-- the operator that a run goes on with, if it is one and doesn't clash
abbrev pub joining : Option Fixity → List Fixity → Option Fixity
joining None ops = None
joining (Some f) ops = if clash f ops then None else Some f
