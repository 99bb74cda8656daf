-- How far the lines of a list fit together, found from the last line on: `split_of` has the lines that were split, it finds
-- a tree where one stands, and what is behind fits into none. And what the lines choose is what that tree chooses.
use Rattle.std.proofs.Common.{◌≡◌, ℕ, ◌+◌, Bool, true, false, List, [], ◌∷◌, ◌++◌, Result, Ok, Err, refl, ap, ap₂, sym, subst, ◌∙◌, append_assoc, append-nil, length, length-append, take, drop, ℤ, Option, arith}
use Rattle.cm_base.specs.declared.diag.Diag.{Diag}
use Rattle.cm_base.specs.declared.diag.Place.{Place}
use Rattle.cm_base.specs.Diags.{◌>>=◌}
use Rattle.cm_conditions.specs.Chosen.{chosen, selected}
use Rattle.cm_conditions.specs.Nesting.{Part, Branches, line, lines_of, branch_lines, IsClosed, Ends, IsNested}
use Rattle.cm_conditions.specs.Splitting.{Tail, tail_lines, Split, split, prepend, turned_by, opened_by, with_line, split_of, ended}
use Rattle.cm_conditions.specs.Taking.{branch, state, start, after_all, items_of}
use Rattle.cm_conditions.specs.declared.cond.Cond.{Cond}
use Rattle.cm_conditions.specs.declared.line.Line.{Line}
use Rattle.cm_conditions.specs.declared.line.LineBody.{LineBody}
use Rattle.cm_conditions.specs.declared.line.LineBody.TheVariants as l
use Rattle.cm_conditions.specs.declared.selection.Selection.{Selection}
use Rattle.cm_conditions.proofs.Selecting.{part_taken, then_then}

-- ---- a split has the lines that were split

abbrev all_lines : Split → List Line
all_lines s = tail_lines s.tail ++ s.rest

prepended : (f : Part → Part) (x : Line) → ((p : Part) → lines_of (f p) ≡ x ∷ lines_of p) → (t : Tail)
    → tail_lines (prepend f t) ≡ x ∷ tail_lines t
prepended f x h (Tail.stop p) = h p
prepended f x h (Tail.closes p b t) = ap (λ ys. ys ++ (branch_lines b ++ tail_lines t)) (h p)

turned : (f : Part → Branches → Branches) (x : Line)
    → ((p : Part) (b : Branches) → branch_lines (f p b) ≡ x ∷ (lines_of p ++ branch_lines b)) → (t : Tail) (rest : List Line)
    → all_lines (turned_by f x t rest) ≡ x ∷ (tail_lines t ++ rest)
turned f x h (Tail.stop p) rest = refl
turned f x h (Tail.closes p b t) rest =
    ap (λ ys. ys ++ rest) (ap (λ ys. ys ++ tail_lines t) (h p b)
    ∙ ap (λ ys. x ∷ ys) (append_assoc (lines_of p) (branch_lines b) (tail_lines t)))

opens : (at : Place) (c : Cond) (t : Tail) (rest : List Line)
    → all_lines (opened_by at c t rest) ≡ line at (l.If c) ∷ (tail_lines t ++ rest)
opens at c (Tail.stop p) rest = refl
opens at c (Tail.closes p b (Tail.stop q)) rest = refl
opens at c (Tail.closes p b (Tail.closes q d t)) rest =
    let more = branch_lines d ++ tail_lines t in
    ap (λ ys. (line at (l.If c) ∷ ys) ++ rest)
    (append_assoc (lines_of p) (branch_lines b ++ lines_of q) more
    ∙ ap (λ ys. lines_of p ++ ys) (append_assoc (branch_lines b) (lines_of q) more))

with_one : (at : Place) (body : LineBody) (s : Split) → all_lines (with_line at body s) ≡ line at body ∷ all_lines s
with_one at (l.Item n) s =
    ap (λ ys. ys ++ s.rest) (prepended (Part.item at n) (line at (l.Item n)) (λ p. refl) s.tail)
with_one at (l.Error x) s =
    ap (λ ys. ys ++ s.rest) (prepended (Part.error at x) (line at (l.Error x)) (λ p. refl) s.tail)
with_one at (l.If c) s = opens at c s.tail s.rest
with_one at (l.Elif c) s = turned (Branches.elif at c) (line at (l.Elif c)) (λ p b. refl) s.tail s.rest
with_one at l.Else s = turned (Branches.otherwise at) (line at l.Else) (λ p b. refl) s.tail s.rest
with_one at l.Endif s = refl

pub split_lines : (lines : List Line) → tail_lines (split_of lines).tail ++ (split_of lines).rest ≡ lines
split_lines [] = refl
split_lines (x ∷ lines) = with_one x.at x.body (split_of lines) ∙ ap (λ ys. x ∷ ys) (split_lines lines)

-- ---- a tree before lines is split as it is

abbrev pub join : Part → Part → Part
join Part.end q = q
join (Part.item at n p) q = Part.item at n (join p q)
join (Part.error at x p) q = Part.error at x (join p q)
join (Part.block at c part bs p) q = Part.block at c part bs (join p q)

pub join_end : (p : Part) → join p Part.end ≡ p
join_end Part.end = refl
join_end (Part.item at n p) = ap (Part.item at n) (join_end p)
join_end (Part.error at x p) = ap (Part.error at x) (join_end p)
join_end (Part.block at c part bs p) = ap (Part.block at c part bs) (join_end p)

abbrev put : Part → Split → Split
put p s = split (prepend (join p) s.tail) s.rest

abbrev behind_branches : Branches → Split → Split
behind_branches bs s = split (Tail.closes Part.end bs s.tail) s.rest

put_end : (t : Tail) (rest : List Line) → split t rest ≡ put Part.end (split t rest)
put_end (Tail.stop p) rest = refl
put_end (Tail.closes p b t) rest = refl

put_item : (at : Place) (n : ℕ) (p : Part) (t : Tail) (rest : List Line)
    → with_line at (l.Item n) (put p (split t rest)) ≡ put (Part.item at n p) (split t rest)
put_item at n p (Tail.stop q) rest = refl
put_item at n p (Tail.closes q b t) rest = refl

put_error : (at : Place) (x : List ℕ) (p : Part) (t : Tail) (rest : List Line)
    → with_line at (l.Error x) (put p (split t rest)) ≡ put (Part.error at x p) (split t rest)
put_error at x p (Tail.stop q) rest = refl
put_error at x p (Tail.closes q b t) rest = refl

put_block : (at : Place) (c : Cond) (part : Part) (bs : Branches) (p : Part) (t : Tail) (rest : List Line)
    → with_line at (l.If c) (put part (behind_branches bs (put p (split t rest))))
    ≡ put (Part.block at c part bs p) (split t rest)
put_block at c part bs p (Tail.stop q) rest =
    ap (λ first. split (Tail.stop (Part.block at c first bs (join p q))) rest) (join_end part)
put_block at c part bs p (Tail.closes q b t) rest =
    ap (λ first. split (Tail.closes (Part.block at c first bs (join p q)) b t) rest) (join_end part)

mutual
  pub split_part : (p : Part) (xs : List Line) → split_of (lines_of p ++ xs) ≡ put p (split_of xs)
  split_part Part.end xs = put_end (split_of xs).tail (split_of xs).rest
  split_part (Part.item at n p) xs =
      ap (with_line at (l.Item n)) (split_part p xs) ∙ put_item at n p (split_of xs).tail (split_of xs).rest
  split_part (Part.error at x p) xs =
      ap (with_line at (l.Error x)) (split_part p xs) ∙ put_error at x p (split_of xs).tail (split_of xs).rest
  split_part (Part.block at c part bs p) xs =
      let more = lines_of p ++ xs in
      ap (λ ys. with_line at (l.If c) (split_of ys))
      (append_assoc (lines_of part) (branch_lines bs ++ lines_of p) xs
      ∙ ap (λ ys. lines_of part ++ ys) (append_assoc (branch_lines bs) (lines_of p) xs))
      ∙ ap (with_line at (l.If c)) (split_part part (branch_lines bs ++ more)
      ∙ ap (put part) (split_branches bs more ∙ ap (behind_branches bs) (split_part p xs)))
      ∙ put_block at c part bs p (split_of xs).tail (split_of xs).rest

  split_branches : (bs : Branches) (xs : List Line) → split_of (branch_lines bs ++ xs) ≡ behind_branches bs (split_of xs)
  split_branches (Branches.endif at) xs = refl
  split_branches (Branches.elif at c part bs) xs =
      ap (λ ys. with_line at (l.Elif c) (split_of ys)) (append_assoc (lines_of part) (branch_lines bs) xs)
      ∙ ap (with_line at (l.Elif c)) (split_part part (branch_lines bs ++ xs) ∙ ap (put part) (split_branches bs xs))
      ∙ ap (λ first. behind_branches (Branches.elif at c first bs) (split_of xs)) (join_end part)
  split_branches (Branches.otherwise at part bs) xs =
      ap (λ ys. with_line at l.Else (split_of ys)) (append_assoc (lines_of part) (branch_lines bs) xs)
      ∙ ap (with_line at l.Else) (split_part part (branch_lines bs ++ xs) ∙ ap (put part) (split_branches bs xs))
      ∙ ap (λ first. behind_branches (Branches.otherwise at first bs) (split_of xs)) (join_end part)

-- ---- what stands behind fits into no tree

abbrev is_closing : Tail → Bool
is_closing (Tail.stop p) = false
is_closing (Tail.closes p b t) = true

closing : (lines : List Line) → IsClosed lines → is_closing (split_of lines).tail ≡ true
closing lines closed =
    ap (λ ys. is_closing (split_of ys).tail) closed.spelled
    ∙ ap (λ (s : Split). is_closing s.tail)
    (split_part closed.part (branch_lines closed.branches ++ closed.rest)
    ∙ ap (put closed.part) (split_branches closed.branches closed.rest))

ends_if : (at : Place) (c : Cond) (t : Tail) (rest : List Line)
    → (IsClosed (tail_lines t ++ rest) → is_closing t ≡ true) → Ends rest → Ends (opened_by at c t rest).rest
ends_if at c (Tail.stop p) rest h ends = λ closed. absurd (let no : false ≡ true = h closed in cc)
ends_if at c (Tail.closes p b t) rest h ends = ends

ends_turned : (f : Part → Branches → Branches) (x : Line) (t : Tail) (rest : List Line)
    → ((ys : List Line) → Ends (x ∷ ys)) → Ends rest → Ends (turned_by f x t rest).rest
ends_turned f x (Tail.stop p) rest h ends = h (lines_of p ++ rest)
ends_turned f x (Tail.closes p b t) rest h ends = ends

ends_with : (at : Place) (body : LineBody) (s : Split)
    → (IsClosed (tail_lines s.tail ++ s.rest) → is_closing s.tail ≡ true) → Ends s.rest → Ends (with_line at body s).rest
ends_with at (l.Item n) s h ends = ends
ends_with at (l.Error x) s h ends = ends
ends_with at (l.If c) s h ends = ends_if at c s.tail s.rest h ends
ends_with at (l.Elif c) s h ends = ends_turned (Branches.elif at c) (line at (l.Elif c)) s.tail s.rest (λ ys. tt) ends
ends_with at l.Else s h ends = ends_turned (Branches.otherwise at) (line at l.Else) s.tail s.rest (λ ys. tt) ends
ends_with at l.Endif s h ends = ends

pub split_ends : (lines : List Line) → Ends (split_of lines).rest
split_ends [] = tt
split_ends (x ∷ lines) =
    ends_with x.at x.body (split_of lines)
    (λ closed. closing lines (subst IsClosed (split_lines lines) closed)) (split_ends lines)

-- ---- what the lines choose

pub record Answered (value : Cond → Option ℤ) (lines rest : List Line) (m : Result (List ℕ) Diag) : Type 0 where
  pub part : Part
  pub behind : List Line
  pub nested : IsNested lines part behind
  pub is : selected value part behind ≡ m >>= ended rest

pub misplaced : (b : Branches) (xs : List Line) → Ends (branch_lines b ++ xs)
misplaced (Branches.endif at) xs = tt
misplaced (Branches.elif at c p b) xs = tt
misplaced (Branches.otherwise at p b) xs = tt

items_then : {A : Type 0} (m : Result A Diag) (f : A → Result Selection Diag)
    → items_of (m >>= f) ≡ m >>= (λ a. items_of (f a))
items_then (Ok a) f = refl
items_then (Err d) f = refl

-- a branch without its block refuses, whatever was chosen
refuses : (value : Cond → Option ℤ) (part : Part) (b : Branches) (xs ys rest : List Line)
    → selected value part (branch_lines b ++ ys)
    ≡ (chosen value true part >>= (λ ns. items_of (after_all value (branch_lines b ++ xs) (state ns (branch true false true) []))))
    >>= ended rest
refuses value part (Branches.endif at) xs ys rest = sym (then_then (chosen value true part) _ (ended rest))
refuses value part (Branches.elif at c p b) xs ys rest = sym (then_then (chosen value true part) _ (ended rest))
refuses value part (Branches.otherwise at p b) xs ys rest = sym (then_then (chosen value true part) _ (ended rest))

items_kept : (m : Result (List ℕ) Diag) → m ≡ m >>= (λ ns. Ok ns)
items_kept (Ok ns) = refl
items_kept (Err d) = refl

selected_end : (value : Cond → Option ℤ) (part : Part) (rest : List Line)
    → selected value part rest ≡ chosen value true part >>= ended rest
selected_end value part [] = items_kept (chosen value true part)
selected_end value part (x ∷ rest) = refl

from_start : (value : Cond → Option ℤ) (part : Part) (xs : List Line)
    → items_of (after_all value (lines_of part ++ xs) start)
    ≡ chosen value true part >>= (λ ns. items_of (after_all value xs (state ns (branch true false true) [])))
from_start value part xs =
    ap items_of (part_taken value part xs [] true false true [])
    ∙ items_then (chosen value true part) _

answered : (value : Cond → Option ℤ) (lines : List Line) (t : Tail) (rest : List Line) → lines ≡ tail_lines t ++ rest
    → Ends rest → Answered value lines rest (items_of (after_all value (tail_lines t) start))
answered value lines (Tail.stop part) rest is ends = record {
  part = part;
  behind = rest;
  nested = record { spelled = is; ends = ends };
  is = selected_end value part rest
      ∙ ap (λ m. m >>= ended rest) (items_kept (chosen value true part)
      ∙ sym (from_start value part [])
      ∙ ap (λ ys. items_of (after_all value ys start)) (append-nil (lines_of part)));
}
answered value lines (Tail.closes part b t) rest is ends = record {
  part = part;
  behind = branch_lines b ++ (tail_lines t ++ rest);
  nested = record {
    spelled = is ∙ append_assoc (lines_of part) (branch_lines b ++ tail_lines t) rest
        ∙ ap (λ ys. lines_of part ++ ys) (append_assoc (branch_lines b) (tail_lines t) rest);
    ends = misplaced b (tail_lines t ++ rest);
  };
  is = refuses value part b (tail_lines t) (tail_lines t ++ rest) rest
      ∙ ap (λ m. m >>= ended rest) (sym (from_start value part (branch_lines b ++ tail_lines t)));
}

pub whole_answered : (value : Cond → Option ℤ) (lines : List Line)
    → Answered value lines (split_of lines).rest (items_of (after_all value (tail_lines (split_of lines).tail) start))
whole_answered value lines =
    answered value lines (split_of lines).tail (split_of lines).rest (sym (split_lines lines)) (split_ends lines)

-- ---- where the lines are cut

front_of : {X : Type 0} (front behind : List X) → take (length front) (front ++ behind) ≡ front
front_of [] behind = refl
front_of (x ∷ front) behind = ap (λ xs. x ∷ xs) (front_of front behind)

pub back_of : {X : Type 0} (front behind : List X) → drop (length front) (front ++ behind) ≡ behind
back_of [] behind = refl
back_of (x ∷ front) behind = back_of front behind

-- the number of lines that fit together
front_len : {X : Type 0} (front behind all : List X) (n : ℕ) → front ++ behind ≡ all → n + length behind ≡ length all
    → n ≡ length front
front_len front behind all n h k =
    let len : length front + length behind ≡ length all = sym (length-append front behind) ∙ ap length h in
    omega (arith, len, k)

pub select_answered : (value : Cond → Option ℤ) (lines whole rest : List Line) (n : ℕ)
    → n + length (split_of lines).rest ≡ length lines → whole ≡ take n lines → rest ≡ drop n lines
    → Answered value lines rest (items_of (after_all value whole start))
select_answered value lines whole rest n count front back =
    let t = (split_of lines).tail in
    let r = (split_of lines).rest in
    let all = split_lines lines in
    let len : n ≡ length (tail_lines t) = front_len (tail_lines t) r lines n all count in
    let whole_is : whole ≡ tail_lines t =
    front ∙ ap₂ (λ m ys. take m ys) len (sym all) ∙ front_of (tail_lines t) r in
    let rest_is : rest ≡ r = back ∙ ap₂ (λ m ys. drop m ys) len (sym all) ∙ back_of (tail_lines t) r in
    subst (λ ys. Answered value lines ys (items_of (after_all value whole start))) (sym rest_is)
    (subst (λ ys. Answered value lines r (items_of (after_all value ys start))) (sym whole_is)
    (answered value lines t r (sym all) (split_ends lines)))
