-- What is kept while lines are taken one after another, and what each line changes: a step of the proof that code
-- chooses what `chosen` says.
use Rattle.std.specs.Prelude.{◌≡◌, ℕ, Bool, true, false, not, ◌&&◌, Option, None, Some, Result, Ok, Err, List, [], ◌∷◌, ◌++◌, if◌then◌else◌, ℤ}
use Rattle.cm_base.specs.declared.diag.Diag.{Diag}
use Rattle.cm_base.specs.declared.diag.Place.{Place}
use Rattle.cm_base.specs.declared.fault.Fault.{Fault}
use Rattle.cm_base.specs.declared.fault.Fault.TheVariants as fault
use Rattle.cm_base.specs.Diags.{◌>>=◌}
use Rattle.cm_conditions.specs.Chosen.{is_taken, error_line}
use Rattle.cm_conditions.specs.Values.{bad_condition}
use Rattle.cm_conditions.specs.declared.cond.Cond.{Cond}
use Rattle.cm_conditions.specs.declared.line.Line.{Line}
use Rattle.cm_conditions.specs.declared.line.LineBody.{LineBody}
use Rattle.cm_conditions.specs.declared.line.LineBody.TheVariants as l
use Rattle.cm_conditions.specs.declared.selection.Branch.{Branch}
use Rattle.cm_conditions.specs.declared.selection.Selection.{Selection}

abbrev pub branch : Bool → Bool → Bool → Branch
branch live waits last = record { live = live; waits = waits; last = last }

-- these items are chosen, and the lines stand in this branch, inside those
abbrev pub state : List ℕ → Branch → List Branch → Selection
state items here around = record { items = items; here = here; around = around }

-- before the first line: no branch can follow there
abbrev pub start : Selection
start = state [] (branch true false true) []

-- the last branch of a list and the others, if there is one
abbrev pub last_before : Branch → Option (Branch × List Branch) → Branch × List Branch
last_before first None = (first, [])
last_before first (Some p) = (p.0, first ∷ p.1)

abbrev pub popped : List Branch → Option (Branch × List Branch)
popped [] = None
popped (first ∷ rest) = Some (last_before first (popped rest))

-- behind an `#endif`
abbrev pub closed_by : Place → List ℕ → Option (Branch × List Branch) → Result Selection Diag
closed_by at items None = Err (bad_condition at)
closed_by at items (Some p) = Ok (state items p.0 p.1)

-- in a new branch of the block that is open
abbrev pub turned : Selection → Bool → Selection
turned s this = state s.items (branch this (s.here.waits && not this) false) s.around

-- in the first branch of a new block
abbrev pub opened : Selection → Bool → Selection
opened s first = state s.items (branch first (s.here.live && not first) false) (s.around ++ s.here ∷ [])

-- in the last branch of the block that is open
abbrev pub turned_last : Place → Selection → Result Selection Diag
turned_last at s =
    if s.here.last then Err (bad_condition at) else Ok (state s.items (branch s.here.waits false true) s.around)

-- behind an item
abbrev pub with_item : Selection → ℕ → Selection
with_item s number = if s.here.live then state (s.items ++ number ∷ []) s.here s.around else s

-- behind an `#error`
abbrev pub refused_by : Place → List ℕ → Selection → Result Selection Diag
refused_by at text s = if s.here.live then Err (error_line at text) else Ok s

-- behind a line
abbrev pub after : (Cond → Option ℤ) → Place → LineBody → Selection → Result Selection Diag
after value at (l.Item number) s = Ok (with_item s number)
after value at (l.Error text) s = refused_by at text s
after value at (l.If cond) s = is_taken s.here.live at (value cond) >>= (λ first. Ok (opened s first))
after value at (l.Elif cond) s =
    if s.here.last then Err (bad_condition at)
    else (is_taken s.here.waits at (value cond) >>= (λ this. Ok (turned s this)))
after value at l.Else s = turned_last at s
after value at l.Endif s = closed_by at s.items (popped s.around)

-- behind some lines
abbrev pub after_all : (Cond → Option ℤ) → List Line → Selection → Result Selection Diag
after_all value [] s = Ok s
after_all value (line ∷ lines) s = after value line.at line.body s >>= after_all value lines

-- what a call answers of what is behind a line, and what it leaves
abbrev pub Leaves : Result (Unit {0}) Fault → Result Selection Diag → Selection → Type 0
Leaves (Ok done) s new = s ≡ Ok new
Leaves (Err (fault.Diag diag)) s new = s ≡ Err diag
Leaves (Err fault.NoMemory) s new = Unit {0}

-- the items of what is left
abbrev pub items_of : Result Selection Diag → Result (List ℕ) Diag
items_of (Ok s) = Ok s.items
items_of (Err diag) = Err diag
