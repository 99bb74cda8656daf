-- What `select` answers, from what its parts do: how its count from the last line on finds the lines that fit together,
-- and what it makes of the lines before and behind.
use Rattle.std.proofs.Common.{◌≡◌, if◌then◌else◌, ℕ, ◌+◌, ◌-◌, ◌<◌, ◌≤◌, ◌==◌, List, ◌∷◌, ◌++◌, Some, None, Result, Ok, Err, refl, ap, ap₂, sym, subst, ◌∙◌, length, length-append, take, drop, ◌^◌, arith}
use Rattle.std.proofs.Math.Path.{fun_ext}
use Rattle.std.specs.Result.{IsErrAnd}
use Rattle.cm_base.specs.Calls.{Gives}
use Rattle.cm_base.specs.declared.diag.Place.{Place}
use Rattle.cm_base.specs.declared.fault.Fault.{Fault}
use Rattle.cm_base.specs.declared.fault.Fault.TheVariants as fault
use Rattle.cm_base.specs.declared.record.Def.{Def}
use Rattle.cm_base.specs.declared.record.ModName.{ModName}
use Rattle.cm_base.specs.Diags.{◌>>=◌}
use Rattle.cm_conditions.specs.Chosen.{selected, Selects}
use Rattle.cm_conditions.specs.Nesting.{Part, Branches, IsNested, line, lines_of, branch_lines}
use Rattle.cm_conditions.specs.Splitting.{Tail, tail_lines, closers_of, closers_before, Split, split, with_line, split_of, prepend, ended}
use Rattle.cm_conditions.specs.Tables.{AreOf, table_def, table_module, by_tables}
use Rattle.cm_conditions.specs.Taking.{after_all, items_of, start}
use Rattle.cm_conditions.specs.Values.{value_by, condition_value, def_of, has_module}
use Rattle.cm_conditions.specs.declared.line.Line.{Line}
use Rattle.cm_conditions.specs.declared.line.LineBody.{LineBody}
use Rattle.cm_conditions.specs.declared.line.LineBody.TheVariants as l
use Rattle.cm_conditions.specs.declared.names.Names.{Names}
use Rattle.cm_conditions.proofs.Splits.{Answered, select_answered, split_lines, whole_answered}

-- ---- counting from the last line on

-- with one line more before them, so many blocks end, and the same lines fit into no tree
pub record Counted (x : Line) (s : Split) (n : ℕ) : Type 0 where
  pub closers : closers_of (with_line x.at x.body s).tail ≡ n
  pub rest : length (with_line x.at x.body s).rest ≡ length s.rest

-- with one line more before them, no line fits into a tree
pub record Cut (x : Line) (s : Split) (behind : List Line) : Type 0 where
  pub closers : closers_of (with_line x.at x.body s).tail ≡ closers_of s.tail
  pub rest : length (with_line x.at x.body s).rest ≡ length behind + 1

prepended : (f : Part → Part) (t : Tail) → closers_of (prepend f t) ≡ closers_of t
prepended f (Tail.stop p) = refl
prepended f (Tail.closes p b t) = refl

less_some : (m n : ℕ) → (if (m + 1) == 0 then None else Some ((m + 1) - 1)) ≡ Some n → m ≡ n
less_some m n h = grind arith

kept_some : (m n : ℕ) → (if (m + 1) == 0 then None else Some (m + 1)) ≡ Some n → m + 1 ≡ n
kept_some m n h = grind arith

some_same : (m n : ℕ) → Some m ≡ Some n → m ≡ n
some_same m n h = cc

closers_with : (at : Place) (body : LineBody) (t : Tail) (rest : List Line) (n : ℕ)
    → closers_before body (closers_of t) ≡ Some n → closers_of (with_line at body (split t rest)).tail ≡ n
closers_with at (l.Item k) t rest n h = prepended (Part.item at k) t ∙ some_same (closers_of t) n h
closers_with at (l.Error x) t rest n h = prepended (Part.error at x) t ∙ some_same (closers_of t) n h
closers_with at l.Endif t rest n h = some_same (closers_of t + 1) n h
closers_with at (l.If c) (Tail.stop p) rest n h = absurd (cc)
closers_with at (l.If c) (Tail.closes p b t) rest n h =
    prepended (Part.block at c p b) t ∙ less_some (closers_of t) n h
closers_with at (l.Elif c) (Tail.stop p) rest n h = absurd (cc)
closers_with at (l.Elif c) (Tail.closes p b t) rest n h = kept_some (closers_of t) n h
closers_with at l.Else (Tail.stop p) rest n h = absurd (cc)
closers_with at l.Else (Tail.closes p b t) rest n h = kept_some (closers_of t) n h

rest_with : (at : Place) (body : LineBody) (t : Tail) (rest : List Line) (n : ℕ)
    → closers_before body (closers_of t) ≡ Some n → (with_line at body (split t rest)).rest ≡ rest
rest_with at (l.Item k) t rest n h = refl
rest_with at (l.Error x) t rest n h = refl
rest_with at l.Endif t rest n h = refl
rest_with at (l.If c) (Tail.stop p) rest n h = absurd (cc)
rest_with at (l.If c) (Tail.closes p b t) rest n h = refl
rest_with at (l.Elif c) (Tail.stop p) rest n h = absurd (cc)
rest_with at (l.Elif c) (Tail.closes p b t) rest n h = refl
rest_with at l.Else (Tail.stop p) rest n h = absurd (cc)
rest_with at l.Else (Tail.closes p b t) rest n h = refl

pub counted : (x : Line) (s : Split) (n : ℕ) → closers_before x.body (closers_of s.tail) ≡ Some n → Counted x s n
counted x s n h = record {
  closers = closers_with x.at x.body s.tail s.rest n h;
  rest = ap length (rest_with x.at x.body s.tail s.rest n h);
}

not_none : (m k : ℕ) → (if (m + 1) == 0 then None else Some k) ≡ None → ⊥
not_none m k h = absurd (grind arith)

closers_cut : (at : Place) (body : LineBody) (t : Tail) (rest : List Line)
    → closers_before body (closers_of t) ≡ None → closers_of (with_line at body (split t rest)).tail ≡ closers_of t
closers_cut at (l.Item k) t rest h = absurd (cc)
closers_cut at (l.Error x) t rest h = absurd (cc)
closers_cut at l.Endif t rest h = absurd (cc)
closers_cut at (l.If c) (Tail.stop p) rest h = refl
closers_cut at (l.If c) (Tail.closes p b t) rest h = absurd (not_none (closers_of t) _ h)
closers_cut at (l.Elif c) (Tail.stop p) rest h = refl
closers_cut at (l.Elif c) (Tail.closes p b t) rest h = absurd (not_none (closers_of t) _ h)
closers_cut at l.Else (Tail.stop p) rest h = refl
closers_cut at l.Else (Tail.closes p b t) rest h = absurd (not_none (closers_of t) _ h)

rest_cut : (at : Place) (body : LineBody) (t : Tail) (rest : List Line)
    → closers_before body (closers_of t) ≡ None
    → (with_line at body (split t rest)).rest ≡ line at body ∷ (tail_lines t ++ rest)
rest_cut at (l.Item k) t rest h = absurd (cc)
rest_cut at (l.Error x) t rest h = absurd (cc)
rest_cut at l.Endif t rest h = absurd (cc)
rest_cut at (l.If c) (Tail.stop p) rest h = refl
rest_cut at (l.If c) (Tail.closes p b t) rest h = absurd (not_none (closers_of t) _ h)
rest_cut at (l.Elif c) (Tail.stop p) rest h = refl
rest_cut at (l.Elif c) (Tail.closes p b t) rest h = absurd (not_none (closers_of t) _ h)
rest_cut at l.Else (Tail.stop p) rest h = refl
rest_cut at l.Else (Tail.closes p b t) rest h = absurd (not_none (closers_of t) _ h)

cons_len : {X : Type 0} (x : X) (xs : List X) → length (x ∷ xs) ≡ length xs + 1
cons_len x xs = omega arith

pub cut_here : (x : Line) (behind : List Line) → closers_before x.body (closers_of (split_of behind).tail) ≡ None
    → Cut x (split_of behind) behind
cut_here x behind h =
    let s = split_of behind in
    record {
      closers = closers_cut x.at x.body s.tail s.rest h;
      rest = ap length (rest_cut x.at x.body s.tail s.rest h ∙ ap (λ ys. x ∷ ys) (split_lines behind)) ∙ cons_len x behind;
    }

-- each block that ends has a line for that
some_branches : (b : Branches) → 1 ≤ length (branch_lines b)
some_branches (Branches.endif at) = omega arith
some_branches (Branches.elif at c p b) = omega arith
some_branches (Branches.otherwise at p b) = omega arith

few_closers : (t : Tail) → closers_of t ≤ length (tail_lines t)
few_closers (Tail.stop p) = omega arith
few_closers (Tail.closes p b t) =
    let more = few_closers t in
    let one = some_branches b in
    let whole = length-append (lines_of p) (branch_lines b ++ tail_lines t) in
    let back = length-append (branch_lines b) (tail_lines t) in
    omega (arith, more, one, whole, back)

pub closers_few : (lines : List Line) → closers_of (split_of lines).tail ≤ length lines
closers_few lines =
    let s = split_of lines in
    let few = few_closers s.tail in
    let all = length-append (tail_lines s.tail) s.rest in
    let same = ap length (split_lines lines) in
    omega (arith, few, all, same)

-- ---- the answers

pub values_of_tables : (names : Names) (defs : List Def) (modules : List ModName) → AreOf names defs modules
    → value_by (table_def names) (table_module names) ≡ value_by (def_of defs) (has_module modules)
values_of_tables names defs modules are = ap₂ value_by (fun_ext are.values) (fun_ext are.there)

-- want of memory is an answer for each list
pub wants_memory : (defs : List Def) (exports : List ModName) (lines : List Line)
    → Selects defs exports lines (Err fault.NoMemory)
wants_memory defs exports lines =
    let a = whole_answered (condition_value defs exports) lines in (a.part, a.behind, a.nested, tt)

-- what a call knows of the lines that it takes: the tables are those of the lists, and the lines are cut in two
pub record Taken (names : Names) (defs : List Def) (exports : List ModName) (lines whole rest : List Line)
    : Type 0 where
  pub are : AreOf names defs exports
  pub cut : (n : ℕ) × (n + length (split_of lines).rest ≡ length lines) × (whole ≡ take n lines) × (rest ≡ drop n lines)

lines_answered : (names : Names) (defs : List Def) (exports : List ModName) (lines whole rest : List Line)
    → Taken names defs exports lines whole rest
    → Answered (by_tables names) lines rest (items_of (after_all (by_tables names) whole start))
lines_answered names defs exports lines whole rest t =
    select_answered (by_tables names) lines whole rest t.cut.0 t.cut.1 t.cut.2 t.cut.3

-- an answer for the values of the tables is one for those of the lists
for_lists : (names : Names) (defs : List Def) (exports : List ModName) (lines : List Line) (r : Result (List ℕ) Fault)
    → AreOf names defs exports → (part : Part) (behind : List Line) → IsNested lines part behind
    → Gives r (selected (by_tables names) part behind) → Selects defs exports lines r
for_lists names defs exports lines r are part behind nested gives = (
  part,
  behind,
  nested,
  subst (λ value. Gives r (selected value part behind)) (values_of_tables names defs exports are) gives,
)

-- the lines themselves are refused, and the refusal is passed on
pub lines_refused : (names : Names) (defs : List Def) (exports : List ModName) (lines whole rest : List Line)
    (f : Fault) (r : Result (List ℕ) Fault) → Taken names defs exports lines whole rest
    → Gives {A = List ℕ} (Err f) (items_of (after_all (by_tables names) whole start)) → IsErrAnd r (λ e. e ≡ f)
    → Selects defs exports lines r
lines_refused names defs exports lines whole rest f (Ok items) t h passed = absurd passed
lines_refused names defs exports lines whole rest (fault.Diag d) (Err e) t h passed =
    let a = lines_answered names defs exports lines whole rest t in
    for_lists names defs exports lines (Err e) t.are a.part a.behind a.nested
    (subst (λ f. Gives {A = List ℕ} (Err f) (selected (by_tables names) a.part a.behind)) (sym passed)
    (a.is ∙ ap (λ m. m >>= ended rest) h))
lines_refused names defs exports lines whole rest fault.NoMemory (Err e) t h passed =
    subst (λ f. Selects defs exports lines (Err f)) (sym passed) (wants_memory defs exports lines)

-- the lines choose items, and those behind decide
pub lines_chosen : (names : Names) (defs : List Def) (exports : List ModName) (lines whole rest : List Line)
    (items : List ℕ) (r : Result (List ℕ) Fault) → Taken names defs exports lines whole rest
    → items_of (after_all (by_tables names) whole start) ≡ Ok items → Gives r (ended rest items)
    → Selects defs exports lines r
lines_chosen names defs exports lines whole rest items r t h is =
    let a = lines_answered names defs exports lines whole rest t in
    for_lists names defs exports lines r t.are a.part a.behind a.nested
    (subst (Gives r) (sym (a.is ∙ ap (λ m. m >>= ended rest) h)) is)

-- no table could be made
pub no_table : (defs : List Def) (exports : List ModName) (lines : List Line) (r : Result (List ℕ) Fault)
    → IsErrAnd r (λ e. e ≡ fault.NoMemory) → Selects defs exports lines r
no_table defs exports lines (Ok items) passed = absurd passed
no_table defs exports lines (Err e) passed =
    subst (λ f. Selects defs exports lines (Err f)) (sym passed) (wants_memory defs exports lines)

-- ---- the loop from the last line on

-- a line is left, so that fewer blocks end than there are lines
pub few_left : (all rest behind : List Line) (k n : ℕ) → all ≡ rest ++ behind → k ≡ closers_of (split_of behind).tail
    → length all < 2 ^ 64 → n + 1 ≡ length rest → k < 2 ^ 64 - 1
few_left all rest behind k n h is small left =
    let few = closers_few behind in
    let len : length all ≡ length rest + length behind = ap length h ∙ length-append rest behind in
    omega (arith, few, len, is, small, left)

pub cut_len : (all rest behind : List Line) (n r : ℕ) → all ≡ rest ++ behind → n + 1 ≡ length rest
    → r ≡ length behind + 1 → n + r ≡ length all
cut_len all rest behind n r h left is =
    let len : length all ≡ length rest + length behind = ap length h ∙ length-append rest behind in
    omega (arith, len, left, is)
