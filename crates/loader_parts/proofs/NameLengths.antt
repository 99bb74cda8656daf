-- A written path leads to a name of no more components than its description's name and it have together, and a name
-- of few short components is short.
use Rattle.std.proofs.Common.{◌≡◌, ◌∙◌, ap, sym, subst, refl, ℕ, suc, ◌+◌, ◌*◌, ◌≤◌, ◌<◌, ◌^◌, ◌==◌, ◌||◌, Bool, true, false, not, cond, List, [], ◌∷◌, ◌++◌, length, length-append, drop, Option, Some, None, Result, Ok, Err, arith, if◌then◌else◌}
use Rattle.std.specs.Prelude.{nat_lt}
use Rattle.std.specs.List.{AllByRecursion, list_any, onto_first}
use Rattle.std.specs.Option.{option_and_then, option_map_or}
use Rattle.std.proofs.lemmas.Bool.{ltb-false}
use Rattle.cm_base.specs.declared.diag.Place.{Place}
use Rattle.cm_description.specs.declared.description.MemberEntry.{MemberEntry}
use Rattle.project_loading.specs.Projects.{command_place, member_name, or_refused, root_name}
use Rattle.path_anchors.specs.Names.{Bindings, above, all_but_last, anchor_named, anchored, begins_at_root, below, directory_of, is_bound, is_claimed, is_marked, is_stay, is_store, is_up, named, parts_of, passes_limit, path_of, plain_name, plain_route, resolved, route_of, stepped, top_route, walked}
use Rattle.path_anchors.specs.declared.route.Route.{Route}
use Rattle.path_anchors.proofs.Clean.{if_ok}
use Rattle.path_anchors.proofs.Spelling.{EachFree, EachFree-parts_of, Free, parts_of-path_of}
use Rattle.loader_parts.specs.ShortNames.{AreNameParts, IsNear, IsShortPart}

-- ---- short components without a slash

abbrev Fine : List (List ℕ) → Type 0
Fine [] = Unit {0}
Fine (part ∷ parts) = (IsShortPart part × Free part) × Fine parts

Fine-free : (parts : List (List ℕ)) → Fine parts → EachFree parts
Fine-free [] fine = tt
Fine-free (part ∷ parts) fine = (fine.0.1, Fine-free parts fine.1)

Fine-short : (parts : List (List ℕ)) → Fine parts → AllByRecursion IsShortPart parts
Fine-short [] fine = tt
Fine-short (part ∷ parts) fine = (fine.0.0, Fine-short parts fine.1)

Fine-of : (parts : List (List ℕ)) → AllByRecursion IsShortPart parts → EachFree parts → Fine parts
Fine-of [] short free = tt
Fine-of (part ∷ parts) short free = ((short.0, free.0), Fine-of parts short.1 free.1)

Fine-append : (a b : List (List ℕ)) → Fine a → Fine b → Fine (a ++ b)
Fine-append [] b fa fb = fb
Fine-append (part ∷ a) b fa fb = (fa.0, Fine-append a b fa.1 fb)

Fine-all_but_last : (parts : List (List ℕ)) → Fine parts → Fine (all_but_last parts)
Fine-all_but_last [] fine = tt
Fine-all_but_last (part ∷ []) fine = tt
Fine-all_but_last (part ∷ next ∷ parts) fine = (fine.0, Fine-all_but_last (next ∷ parts) fine.1)

no_more : (parts : List (List ℕ)) → length (all_but_last parts) ≤ length parts
no_more [] = omega arith
no_more (part ∷ []) = omega arith
no_more (part ∷ next ∷ parts) = let rest = no_more (next ∷ parts) in omega (arith, rest)

-- ---- where they lead

-- no more than so many of them
record AreFew (n : ℕ) (parts : List (List ℕ)) : Type 0 where
  fine : Fine parts
  count : length parts ≤ n

few_above : (here there : List (List ℕ)) → Fine here → above here ≡ Some there → AreFew (length here) there
few_above [] there fine is = absurd cc
few_above (part ∷ here) there fine is =
    let same : all_but_last (part ∷ here) ≡ there = cc in
    subst (AreFew (length (part ∷ here))) same (record {
      fine = Fine-all_but_last (part ∷ here) fine;
      count = no_more (part ∷ here);
    })

few_more : (n m : ℕ) (parts : List (List ℕ)) → AreFew n parts → n ≤ m → AreFew m parts
few_more n m parts few le = let count = few.count in record { fine = few.fine; count = omega (arith, count, le) }

few_stepped : (here there : List (List ℕ)) (part : List ℕ) (stay up : Bool) → Fine here → IsShortPart part × Free part
    → (if stay then Some here else (if up then above here else Some (here ++ part ∷ []))) ≡ Some there
    → AreFew (suc (length here)) there
few_stepped here there part true up fine one is =
    let same : here ≡ there = cc in
    subst (AreFew (suc (length here))) same (record { fine = fine; count = omega arith })
few_stepped here there part false true fine one is =
    few_more (length here) (suc (length here)) there (few_above here there fine is) (omega arith)
few_stepped here there part false false fine one is =
    let same : here ++ part ∷ [] ≡ there = cc in
    let long = length-append here (part ∷ []) in
    subst (AreFew (suc (length here))) same (record {
      fine = Fine-append here (part ∷ []) fine (one, tt);
      count = omega (arith, long);
    })

few_walked : (parts here there : List (List ℕ)) → Fine here → Fine parts → walked here parts ≡ Some there
    → AreFew (length here + length parts) there
few_walked [] here there fine all is =
    let same : here ≡ there = cc in
    subst (AreFew (length here + 0)) same (record { fine = fine; count = omega arith })
few_walked (part ∷ parts) here there fine all is =
    by_step (stepped here part)
    (λ next gives. few_stepped here next part (is_stay part) (is_up part) fine all.0 gives)
    (λ next good so. few_walked parts next there good all.1 so) is
  where
    by_step : (o : Option (List (List ℕ)))
        → ((next : List (List ℕ)) → o ≡ Some next → AreFew (suc (length here)) next)
        → ((next : List (List ℕ)) → Fine next → walked next parts ≡ Some there
        → AreFew (length next + length parts) there)
        → option_and_then (λ next. walked next parts) o ≡ Some there
        → AreFew (length here + suc (length parts)) there
    by_step None step rest so = absurd cc
    by_step (Some next) step rest so =
        let one = step next refl in
        let count = one.count in
        few_more (length next + length parts) (length here + suc (length parts)) there (rest next one.fine so)
        (omega (arith, count))

-- ---- routes

-- a short anchor without a slash, if there is one, and the number of components that it takes
abbrev FineAnchor : Option (List ℕ) → Type 0
FineAnchor None = Unit {0}
FineAnchor (Some anchor) = IsShortPart anchor × Free anchor

abbrev marks : Option (List ℕ) → ℕ
marks None = 0
marks (Some anchor) = 1

record IsFineRoute (n : ℕ) (at : Route) : Type 0 where
  anchor : FineAnchor at.anchor
  parts : Fine at.parts
  count : marks at.anchor + length at.parts ≤ n

fine_anchor : (mark next : List ℕ) → length mark ≤ 201 → Free mark → IsShortPart next × Free next
    → FineAnchor (Some (anchor_named mark next))
fine_anchor mark next short free fine = by_test (length mark == 1)
  where
    dropped : (m : List ℕ) → length m ≤ 201 → Free m → IsShortPart (drop 1 m) × Free (drop 1 m)
    dropped [] s f = (omega arith, tt)
    dropped (byte ∷ bytes) s f = (omega (arith, s), f.1)

    by_test : (b : Bool) → IsShortPart (if b then next else drop 1 mark) × Free (if b then next else drop 1 mark)
    by_test true = fine
    by_test false = dropped mark short free

-- the directory of a name
fine_base : (parts : List (List ℕ)) → AreNameParts parts → EachFree parts
    → IsFineRoute (length parts) (directory_of (top_route parts))
fine_base [] are free = record { anchor = tt; parts = tt; count = omega arith }
fine_base (mark ∷ []) are free = record { anchor = tt; parts = tt; count = omega arith }
fine_base (mark ∷ next ∷ parts) are free = by_test (is_marked mark) are.0
  where
    rest : Fine (next ∷ parts)
    rest = Fine-of (next ∷ parts) are.1 free.1

    by_test : (b : Bool) → length mark ≤ (if b then 201 else 200)
        → IsFineRoute (suc (suc (length parts))) (directory_of (option_map_or (λ at. at)
        (if b then Some (record { anchor = Some (anchor_named mark next); parts = next ∷ parts }) else None)
        (plain_route (mark ∷ next ∷ parts))))
    by_test true short =
        let fewer = no_more (next ∷ parts) in
        record {
          anchor = fine_anchor mark next short free.0 rest.0;
          parts = Fine-all_but_last (next ∷ parts) rest;
          count = omega (arith, fewer);
        }
    by_test false short =
        let fewer = no_more (mark ∷ next ∷ parts) in
        record {
          anchor = tt;
          parts = Fine-all_but_last (mark ∷ next ∷ parts) ((short, free.0), rest);
          count = omega (arith, fewer);
        }

fine_below : (n : ℕ) (at : Route) (written : List (List ℕ)) → IsFineRoute n at → Fine written
    → IsFineRoute (n + length written) (below at written)
fine_below n at written fine all =
    let count = fine.count in
    let long = length-append at.parts written in
    record {
      anchor = fine.anchor;
      parts = Fine-append at.parts written fine.parts all;
      count = omega (arith, count, long);
    }

fine_or : (n : ℕ) (written : List (List ℕ)) (other : Route) → Fine written → IsFineRoute (n + length written) other
    → IsFineRoute (n + length written) (option_map_or (λ at. at) (anchored written) other)
fine_or n [] other all fine = fine
fine_or n (mark ∷ []) other all fine = fine
fine_or n (mark ∷ next ∷ parts) other all fine = by_test (is_marked mark)
  where
    by_test : (b : Bool) → IsFineRoute (n + suc (suc (length parts))) (option_map_or (λ at. at)
        (if b then Some (record { anchor = Some (anchor_named mark next); parts = next ∷ parts }) else None) other)
    by_test true =
        let short = all.0.0 in
        record {
          anchor = fine_anchor mark next (omega (arith, short)) all.0.1 all.1.0;
          parts = all.1;
          count = omega arith;
        }
    by_test false = fine

fine_route : (base written : List (List ℕ)) → AreNameParts base → EachFree base → Fine written
    → IsFineRoute (length base + length written) (route_of base written)
fine_route base written are free all =
    fine_or (length base) written (below (directory_of (top_route base)) written) all
    (fine_below (length base) (directory_of (top_route base)) written (fine_base base are free) all)

-- ---- names

-- a name of no more than so many components
record IsFewParts (n : ℕ) (parts : List (List ℕ)) : Type 0 where
  are : AreNameParts parts
  count : length parts ≤ n

few_parts : (n : ℕ) (name first : List ℕ) (parts : List (List ℕ)) → EachFree (first ∷ parts)
    → IsFewParts n (first ∷ parts) → path_of (first ∷ parts) ≡ name → IsFewParts n (parts_of name)
few_parts n name first parts free few is =
    subst (IsFewParts n) (sym (parts_of-path_of first parts free) ∙ ap parts_of is) few

plain_few : (anchors : Bindings) (n : ℕ) (name first : List ℕ) (parts : List (List ℕ)) → AreFew n (first ∷ parts)
    → plain_name anchors (first ∷ parts) ≡ Ok name → IsFewParts n (parts_of name)
plain_few anchors n name first parts few is =
    let marked = if_ok (is_marked first) _ _ name is in
    let stored = if_ok (is_store first) _ _ name marked.1 in
    let claimed = if_ok (is_claimed anchors (path_of (first ∷ parts))) _ _ name stored.1 in
    let short : length first ≤ (if is_marked first then 201 else 200) = rw marked.0 few.fine.0.0 in
    few_parts n name first parts (Fine-free (first ∷ parts) few.fine)
    (record { are = (short, Fine-short parts few.fine.1); count = few.count }) (cc (claimed.1))

named_few : (anchors : Bindings) (n : ℕ) (anchor : Option (List ℕ)) (led : Option (List (List ℕ))) (name : List ℕ)
    → FineAnchor anchor → ((there : List (List ℕ)) → led ≡ Some there → (marks anchor + length there ≤ n) × Fine there)
    → named anchors anchor led ≡ Ok name → IsFewParts n (parts_of name)
named_few anchors n anchor None name fine leads is = absurd cc
named_few anchors n anchor (Some []) name fine leads is = absurd cc
named_few anchors n None (Some (first ∷ parts)) name fine leads is =
    let there = leads (first ∷ parts) refl in
    let count = there.0 in
    plain_few anchors n name first parts (record { fine = there.1; count = omega (arith, count) }) is
named_few anchors n (Some anchor) (Some (first ∷ parts)) name fine leads is =
    let there = leads (first ∷ parts) refl in
    let count = there.0 in
    let short = fine.0 in
    let same : path_of ((36 ∷ anchor) ∷ first ∷ parts) ≡ name = cc in
    few_parts n name (36 ∷ anchor) (first ∷ parts) ((refl, fine.1), Fine-free (first ∷ parts) there.1)
    (record {
      are = (omega (arith, short), Fine-short (first ∷ parts) there.1);
      count = omega (arith, count);
    }) same

-- ---- written paths

pub neither : (a b : Bool) → (a || b) ≡ false → (a ≡ false) × (b ≡ false)
neither true b h = absurd cc
neither false b h = (refl, h)

all_short : (parts : List (List ℕ)) → list_any (λ (part : List ℕ). nat_lt 200 (length part)) parts ≡ false
    → AllByRecursion IsShortPart parts
all_short [] h = tt
all_short (part ∷ parts) h =
    let two = neither (nat_lt 200 (length part)) (list_any (λ (part : List ℕ). nat_lt 200 (length part)) parts) h in
    (ltb-false 200 (length part) two.0, all_short parts two.1)

onto_long : (byte : ℕ) (parts : List (List ℕ)) (n : ℕ) → length parts ≤ suc n
    → length (onto_first byte parts) ≤ suc (suc n)
onto_long byte [] n le = omega arith
onto_long byte (part ∷ parts) n le = omega (arith, le)

-- a path has at most one component more than bytes
few_components : (path : List ℕ) → length (parts_of path) ≤ suc (length path)
few_components [] = omega arith
few_components (byte ∷ path) = by_test (byte == 47) (few_components path)
  where
    by_test : (b : Bool) → length (parts_of path) ≤ suc (length path)
        → length (cond b ([] ∷ parts_of path) (onto_first byte (parts_of path))) ≤ suc (suc (length path))
    by_test true rest = omega (arith, rest)
    by_test false rest = onto_long byte (parts_of path) (length path) rest

resolved_few : (anchors : Bindings) (base written name : List ℕ) → AreNameParts (parts_of base)
    → resolved anchors base written ≡ Ok name → IsFewParts (length (parts_of base) + 1025) (parts_of name)
resolved_few anchors base written name are is =
    let at = route_of (parts_of base) (parts_of written) in
    let limit = if_ok (passes_limit written) _ _ name is in
    let bound = if_ok (not (is_bound anchors at.anchor)) _ _ name limit.1 in
    let root = if_ok (begins_at_root written) _ _ name bound.1 in
    let within = neither (nat_lt 1024 (length written))
    (list_any (λ (part : List ℕ). nat_lt 200 (length part)) (parts_of written)) limit.0 in
    let short = ltb-false 1024 (length written) within.0 in
    let few = few_components written in
    let all = Fine-of (parts_of written) (all_short (parts_of written) within.1) (EachFree-parts_of written) in
    let route = fine_route (parts_of base) (parts_of written) are (EachFree-parts_of base) all in
    let count = route.count in
    named_few anchors (length (parts_of base) + 1025) at.anchor (walked [] at.parts) name route.anchor
    (λ there led.
    let walk = few_walked at.parts [] there tt route.parts led in
    let steps = walk.count in
    (omega (arith, short, few, count, steps), walk.fine)) root.1

resolved_near : (anchors : Bindings) (base written name : List ℕ) (levels : ℕ) → IsNear (levels + 1) base
    → resolved anchors base written ≡ Ok name → IsNear levels name
resolved_near anchors base written name levels near is =
    let few = resolved_few anchors base written name near.parts is in
    let here = near.count in
    let count = few.count in
    record { parts = few.are; count = omega (arith, here, count) }

-- the top, where ROOT is written
top_near : IsNear 515 []
top_near = record { parts = (omega arith, tt); count = omega arith }

-- ---- bytes

abbrev weight : List (List ℕ) → ℕ
weight [] = 0
weight (part ∷ parts) = suc (length part) + weight parts

onto_weighs : (byte : ℕ) (parts : List (List ℕ)) (n : ℕ) → n < weight parts → suc n < weight (onto_first byte parts)
onto_weighs byte [] n lt = absurd (omega (arith, lt))
onto_weighs byte (part ∷ parts) n lt = omega (arith, lt)

weighs : (path : List ℕ) → length path < weight (parts_of path)
weighs [] = omega arith
weighs (byte ∷ path) = by_test (byte == 47) (weighs path)
  where
    by_test : (b : Bool) → length path < weight (parts_of path)
        → suc (length path) < weight (cond b ([] ∷ parts_of path) (onto_first byte (parts_of path)))
    by_test true rest = omega (arith, rest)
    by_test false rest = onto_weighs byte (parts_of path) (length path) rest

light : (parts : List (List ℕ)) → AllByRecursion IsShortPart parts → weight parts ≤ 201 * length parts
light [] short = omega arith
light (part ∷ parts) short =
    let one = short.0 in
    let rest = light parts short.1 in
    omega (arith, one, rest)

first_short : (b : Bool) (n : ℕ) → n ≤ (if b then 201 else 200) → n ≤ 201
first_short true n le = le
first_short false n le = omega (arith, le)

name_light : (parts : List (List ℕ)) → AreNameParts parts → weight parts ≤ 201 * length parts + 1
name_light [] are = omega arith
name_light (first ∷ parts) are =
    let one = first_short (is_marked first) (length first) are.0 in
    let rest = light parts are.1 in
    omega (arith, one, rest)

-- a name that is near is short
pub near_short : (levels : ℕ) (name : List ℕ) → IsNear levels name → length name < 2 ^ 32
near_short levels name near =
    let bytes = weighs name in
    let all = name_light (parts_of name) near.parts in
    let count = near.count in
    omega (arith, bytes, all, count)

-- ---- names of members

refused_or : (at : Place) (written : List ℕ) (r : Result (List ℕ) ℕ) (name : List ℕ) → or_refused at written r ≡ Ok name
    → r ≡ Ok name
refused_or at written (Ok found) name is = ap Ok cc
refused_or at written (Err number) name is = absurd cc

pub member_near : (anchors : Bindings) (holder : List ℕ) (member : MemberEntry) (name : List ℕ) (levels : ℕ)
    → IsNear (levels + 1) holder → member_name anchors holder member ≡ Ok name → IsNear levels name
member_near anchors holder member name levels near is =
    resolved_near anchors holder member.path name levels near (refused_or member.at member.path _ name is)

pub root_near : (anchors : Bindings) (root name : List ℕ) → root_name anchors root ≡ Ok name → IsNear 514 name
root_near anchors root name is =
    resolved_near anchors [] root name 514 top_near (refused_or command_place root _ name is)
