-- Where the lines of a list stop to fit together, found from the last line on: a step of the proof that each list has
-- one way to nest.
use Rattle.std.specs.Prelude.{ℕ, ◌+◌, ◌-◌, ◌==◌, if◌then◌else◌, Option, Some, None, Result, Ok, Err, List, [], ◌∷◌, ◌++◌}
use Rattle.cm_base.specs.declared.diag.Diag.{Diag}
use Rattle.cm_base.specs.declared.diag.Place.{Place}
use Rattle.cm_conditions.specs.Nesting.{Part, Branches, line, lines_of, branch_lines}
use Rattle.cm_conditions.specs.Values.{bad_condition}
use Rattle.cm_conditions.specs.declared.cond.Cond.{Cond}
use Rattle.cm_conditions.specs.declared.line.Line.{Line}
use Rattle.cm_conditions.specs.declared.line.LineBody.{LineBody}
use Rattle.cm_conditions.specs.declared.line.LineBody.TheVariants as l

-- trees, and between them branches up to an `#endif` whose `#if` isn't among them
pub data Tail : Type 0 where
  stop : Part → Tail
  closes : Part → Branches → Tail → Tail

abbrev pub tail_lines : Tail → List Line
tail_lines (Tail.stop part) = lines_of part
tail_lines (Tail.closes part branches tail) = lines_of part ++ (branch_lines branches ++ tail_lines tail)

-- how many blocks end there that don't begin there
abbrev pub closers_of : Tail → ℕ
closers_of (Tail.stop part) = 0
closers_of (Tail.closes part branches tail) = closers_of tail + 1

-- lines that fit together so, and the lines behind them
pub record Split : Type 0 where
  pub tail : Tail
  pub rest : List Line

abbrev pub split : Tail → List Line → Split
split tail rest = record { tail = tail; rest = rest }

-- with something before the first tree
abbrev pub prepend : (Part → Part) → Tail → Tail
prepend f (Tail.stop part) = Tail.stop (f part)
prepend f (Tail.closes part branches tail) = Tail.closes (f part) branches tail

-- with an `#elif` or an `#else` before them: a branch of the block that ends first, if one does
abbrev pub turned_by : (Part → Branches → Branches) → Line → Tail → List Line → Split
turned_by f line (Tail.stop part) rest = split (Tail.stop Part.end) (line ∷ (lines_of part ++ rest))
turned_by f line (Tail.closes part branches tail) rest = split (Tail.closes Part.end (f part branches) tail) rest

-- with an `#if` before them: that of the block that ends first, if one does
abbrev pub opened_by : Place → Cond → Tail → List Line → Split
opened_by at cond (Tail.stop part) rest =
    split (Tail.stop Part.end) (line at (l.If cond) ∷ (lines_of part ++ rest))
opened_by at cond (Tail.closes part branches tail) rest = split (prepend (Part.block at cond part branches) tail) rest

abbrev pub with_line : Place → LineBody → Split → Split
with_line at (l.Item number) s = split (prepend (Part.item at number) s.tail) s.rest
with_line at (l.Error text) s = split (prepend (Part.error at text) s.tail) s.rest
with_line at (l.If cond) s = opened_by at cond s.tail s.rest
with_line at (l.Elif cond) s = turned_by (Branches.elif at cond) (line at (l.Elif cond)) s.tail s.rest
with_line at l.Else s = turned_by (Branches.otherwise at) (line at l.Else) s.tail s.rest
with_line at l.Endif s = split (Tail.closes Part.end (Branches.endif at) s.tail) s.rest

abbrev pub split_of : List Line → Split
split_of [] = split (Tail.stop Part.end) []
split_of (line ∷ lines) = with_line line.at line.body (split_of lines)

-- how many blocks end from a line on that don't begin there, or none where the line belongs to none of them
abbrev pub closers_before : LineBody → ℕ → Option ℕ
closers_before (l.Item number) n = Some n
closers_before (l.Error text) n = Some n
closers_before (l.If cond) n = if n == 0 then None else Some (n - 1)
closers_before (l.Elif cond) n = if n == 0 then None else Some n
closers_before l.Else n = if n == 0 then None else Some n
closers_before l.Endif n = Some (n + 1)

-- the answer for lines that chose these items, before those
abbrev pub ended : List Line → List ℕ → Result (List ℕ) Diag
ended [] items = Ok items
ended (line ∷ behind) items = Err (bad_condition line.at)
