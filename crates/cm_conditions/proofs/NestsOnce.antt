-- Lines nest in one way: whatever tree stands before lines which fit into none, it is the first tree of their split, and
-- what is behind follows from it.
use Rattle.std.proofs.Common.{◌≡◌, List, [], ◌∷◌, ◌++◌, refl, ap, sym, subst, append_assoc, ◌∙◌, length, drop}
use Rattle.cm_base.specs.declared.diag.Place.{Place}
use Rattle.cm_conditions.specs.Nesting.{Part, Branches, line, lines_of, branch_lines, IsClosed, IsMisplaced, Ends, IsNested, NestsInOneWay, EachNests}
use Rattle.cm_conditions.specs.Splitting.{Tail, tail_lines, Split, prepend, turned_by, opened_by, with_line, split_of}
use Rattle.cm_conditions.specs.declared.cond.Cond.{Cond}
use Rattle.cm_conditions.specs.declared.line.Line.{Line}
use Rattle.cm_conditions.specs.declared.line.LineBody.{LineBody}
use Rattle.cm_conditions.specs.declared.line.LineBody.TheVariants as l
use Rattle.cm_conditions.proofs.Splits.{split_lines, split_ends, split_part, join, join_end, back_of, misplaced}

-- the first tree of those that a split has
abbrev first_of : Tail → Part
first_of (Tail.stop p) = p
first_of (Tail.closes p b t) = p

put_first : (p : Part) (t : Tail) → first_of (prepend (join p) t) ≡ join p (first_of t)
put_first p (Tail.stop q) = refl
put_first p (Tail.closes q b t) = refl

turned_first : (f : Part → Branches → Branches) (x : Line) (t : Tail) (rest : List Line)
    → first_of (turned_by f x t rest).tail ≡ Part.end
turned_first f x (Tail.stop p) rest = refl
turned_first f x (Tail.closes p b t) rest = refl

three : {X : Type 0} (xs ys zs ws : List X) → (xs ++ (ys ++ zs)) ++ ws ≡ xs ++ (ys ++ (zs ++ ws))
three xs ys zs ws = append_assoc xs (ys ++ zs) ws ∙ ap (λ more. xs ++ more) (append_assoc ys zs ws)

-- an `#if` that nothing closes
opened_first : (at : Place) (c : Cond) (t : Tail) (rest : List Line) → (IsClosed (tail_lines t ++ rest) → ⊥)
    → first_of (opened_by at c t rest).tail ≡ Part.end
opened_first at c (Tail.stop p) rest never = refl
opened_first at c (Tail.closes p b t) rest never = absurd (never (record {
  part = p;
  branches = b;
  rest = tail_lines t ++ rest;
  spelled = three (lines_of p) (branch_lines b) (tail_lines t) rest;
}))

with_first : (at : Place) (body : LineBody) (lines : List Line) → IsMisplaced body lines
    → first_of (with_line at body (split_of lines)).tail ≡ Part.end
with_first at (l.If c) lines never =
    let s = split_of lines in
    opened_first at c s.tail s.rest (λ closed. never (subst IsClosed (split_lines lines) closed))
with_first at (l.Elif c) lines h = turned_first (Branches.elif at c) (line at (l.Elif c)) (split_of lines).tail (split_of lines).rest
with_first at l.Else lines h = turned_first (Branches.otherwise at) (line at l.Else) (split_of lines).tail (split_of lines).rest
with_first at l.Endif lines h = refl
with_first at (l.Error text) lines h = absurd h
with_first at (l.Item number) lines h = absurd h

rest_first : (rest : List Line) → Ends rest → first_of (split_of rest).tail ≡ Part.end
rest_first [] ends = refl
rest_first (x ∷ rest) ends = with_first x.at x.body rest ends

-- the tree before lines that fit into none
nested_first : (lines : List Line) (part : Part) (rest : List Line) → IsNested lines part rest
    → part ≡ first_of (split_of lines).tail
nested_first lines part rest nested =
    sym (join_end part)
    ∙ ap (join part) (sym (rest_first rest nested.ends))
    ∙ sym (put_first part (split_of rest).tail)
    ∙ ap (λ (s : Split). first_of s.tail) (sym (split_part part rest))
    ∙ ap (λ ys. first_of (split_of ys).tail) (sym nested.spelled)

nested_rest : (lines : List Line) (part : Part) (rest : List Line) → IsNested lines part rest
    → rest ≡ drop (length (lines_of part)) lines
nested_rest lines part rest nested =
    sym (back_of (lines_of part) rest) ∙ ap (drop (length (lines_of part))) (sym nested.spelled)

pub in_one_way : NestsInOneWay
in_one_way lines part other rest more one two =
    let same : part ≡ other = nested_first lines part rest one ∙ sym (nested_first lines other more two) in (
      same,
      nested_rest lines part rest one
          ∙ ap (λ p. drop (length (lines_of p)) lines) same
          ∙ sym (nested_rest lines other more two),
    )

-- how far lines fit together: the first tree of their split, and what stands behind it
first_nested : (lines : List Line) (t : Tail) (rest : List Line) → lines ≡ tail_lines t ++ rest → Ends rest
    → (part : Part) × (behind : List Line) × IsNested lines part behind
first_nested lines (Tail.stop p) rest is ends = (p, rest, record { spelled = is; ends = ends })
first_nested lines (Tail.closes p b t) rest is ends = (
  p,
  branch_lines b ++ (tail_lines t ++ rest),
  record {
    spelled = is ∙ three (lines_of p) (branch_lines b) (tail_lines t) rest;
    ends = misplaced b (tail_lines t ++ rest);
  },
)

pub each_nests : EachNests
each_nests lines =
    first_nested lines (split_of lines).tail (split_of lines).rest (sym (split_lines lines)) (split_ends lines)
