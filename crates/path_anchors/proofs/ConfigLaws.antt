-- What a pathconfig binds: anchors with names, and directories of the project that lie apart from each other.
use Rattle.std.proofs.Common.{◌≡◌, ◌∙◌, ap, sym, refl, ℕ, ◌+◌, ◌==◌, ◌&&◌, ◌||◌, Bool, true, false, not, List, [], ◌∷◌, ◌++◌, length, Some, None}
use Rattle.std.specs.Prelude.{Option, Result, Ok, Err, nat_eq, is_some, if◌then◌else◌}
use Rattle.std.specs.List.{list_any}
use Rattle.std.specs.Option.{option_and_then, option_map, option_map_or}
use Rattle.std.specs.Cmp.Lexicographic.{pointwise, same_text}
use Rattle.cm_base.specs.declared.diag.Diag.{Diag}
use Rattle.path_anchors.specs.declared.line.BoundLine.{BoundLine}
use Rattle.path_anchors.specs.Names.{Bindings, parts_of, path_of, walked, begins_with, passes_limit, bound_to, is_store}
use Rattle.path_anchors.specs.Pathconfig.{has_form, is_word, has_slash, has_blank, first_word, second_word, has_up, directory_parts, if_any, with_directory, bound_line, touches, is_nested, is_in_store, refusal, bound_more, is_skipped, after_line, and_then, after_lines, lines_of, AreBindings}
use Rattle.path_anchors.proofs.Spelling.{EachFree-parts_of}
use Rattle.path_anchors.proofs.Clean.{if_ok, if_some, if_none, Good, Good-walked}

-- an anchor that isn't empty, with a directory of the project
pub record IsBinding (bound : List ℕ × List ℕ) : Type 0 where
  pub anchor : (length bound.0 == 0) ≡ false
  pub first : List ℕ
  pub parts : List (List ℕ)
  pub spelled : bound.1 ≡ path_of (first ∷ parts)
  pub good : Good (first ∷ parts)
  pub project : is_store first ≡ false

-- the directories of later bindings lie apart from one
abbrev pub ApartFrom : List ℕ × List ℕ → Bindings → Type 0
ApartFrom bound [] = Unit {0}
ApartFrom bound (later ∷ anchors) = (touches (parts_of later.1) (parts_of bound.1) ≡ false) × ApartFrom bound anchors

abbrev pub AreGood : Bindings → Type 0
AreGood [] = Unit {0}
AreGood (bound ∷ anchors) = IsBinding bound × (ApartFrom bound anchors × AreGood anchors)

ApartFrom-append : (bound later : List ℕ × List ℕ) (anchors : Bindings) → ApartFrom bound anchors
    → touches (parts_of later.1) (parts_of bound.1) ≡ false → ApartFrom bound (anchors ++ later ∷ [])
ApartFrom-append bound later [] apart one = (one, tt)
ApartFrom-append bound later (other ∷ anchors) apart one = (apart.0, ApartFrom-append bound later anchors apart.1 one)

either_false : (a b : Bool) → (a || b) ≡ false → (a ≡ false) × (b ≡ false)
either_false true b is = absurd cc
either_false false b is = (refl, is)

-- one binding more, whose directory isn't nested with those before it
AreGood-append : (anchors : Bindings) (later : List ℕ × List ℕ) → AreGood anchors → IsBinding later
    → is_nested anchors later.1 ≡ false → AreGood (anchors ++ later ∷ [])
AreGood-append [] later good one apart = (one, (tt, tt))
AreGood-append (bound ∷ anchors) later good one apart =
    let both = either_false (touches (parts_of later.1) (parts_of bound.1)) (is_nested anchors later.1) apart in
    (good.0, (ApartFrom-append bound later anchors good.1.0 both.0, AreGood-append anchors later good.1.1 one both.1))

-- ---- a line

not_true : (b : Bool) → not b ≡ true → b ≡ false
not_true true is = absurd cc
not_true false is = refl

both_true : (a b : Bool) → (a && b) ≡ true → (a ≡ true) × (b ≡ true)
both_true true b is = (refl, is)
both_true false b is = absurd cc

-- a directory's components lead down, and there are some
pub record IsDirectory (parts : List (List ℕ)) : Type 0 where
  pub first : List ℕ
  pub others : List (List ℕ)
  pub are : parts ≡ first ∷ others
  pub good : Good (first ∷ others)

some_parts : (led : Option (List (List ℕ))) (parts : List (List ℕ))
    → ((there : List (List ℕ)) → led ≡ Some there → Good there)
    → option_and_then if_any led ≡ Some parts → IsDirectory parts
some_parts None parts all is = absurd cc
some_parts (Some []) parts all is = absurd cc
some_parts (Some (first ∷ others)) parts all is = record {
  first = first;
  others = others;
  are = cc;
  good = all (first ∷ others) refl;
}

directory_good : (written : List ℕ) (parts : List (List ℕ)) → directory_parts written ≡ Some parts → IsDirectory parts
directory_good written parts is =
    some_parts (walked [] (parts_of written)) parts
    (λ there led. Good-walked (parts_of written) [] there tt (EachFree-parts_of written) led)
    (if_none (passes_limit written || has_up (parts_of written)) _ parts is).1

-- what a line binds
pub record IsLine (bound : BoundLine) : Type 0 where
  pub anchor : (length bound.anchor == 0) ≡ false
  pub directory : IsDirectory bound.directory

with_parts : (line : List ℕ) (bound : BoundLine) (found : Option (List (List ℕ)))
    → (length (first_word line) == 0) ≡ false
    → ((parts : List (List ℕ)) → found ≡ Some parts → IsDirectory parts)
    → option_map (with_directory line) found ≡ Some bound → IsLine bound
with_parts line bound None some all is = absurd cc
with_parts line bound (Some parts) some all is =
    let same : with_directory line parts ≡ bound = cc in
    rw (← same) (record { anchor = some; directory = all parts refl })

line_good : (line : List ℕ) (bound : BoundLine) → bound_line line ≡ Some bound → IsLine bound
line_good line bound is =
    let form = if_some (has_form line) _ bound is in
    let words = both_true (is_word (first_word line) && not (has_slash (first_word line))) (is_word (second_word line)) form.0 in
    let anchor = both_true (is_word (first_word line)) (not (has_slash (first_word line))) words.0 in
    let some = both_true (not (length (first_word line) == 0)) (not (has_blank (first_word line))) anchor.0 in
    with_parts line bound (directory_parts (second_word line)) (not_true _ some.0)
    (λ parts found. directory_good (second_word line) parts found) form.1

-- ---- all lines

bound_good : (anchors now : Bindings) (line : ℕ) (bound : BoundLine) → AreGood anchors → IsLine bound
    → bound_more anchors line bound ≡ Ok now → AreGood now
bound_good anchors now line bound good new is =
    let twice = if_ok (is_some (bound_to anchors bound.anchor)) _ _ now is in
    let nested = if_ok (is_nested anchors (path_of bound.directory)) _ _ now twice.1 in
    let stored = if_ok (is_in_store bound.directory) _ _ now nested.1 in
    let same : anchors ++ (bound.anchor, path_of bound.directory) ∷ [] ≡ now = cc (stored.1) in
    let project : is_store new.directory.first ≡ false = sym (ap is_in_store new.directory.are) ∙ stored.0 in
    let one : IsBinding (bound.anchor, path_of bound.directory) = record {
      anchor = new.anchor;
      first = new.directory.first;
      parts = new.directory.others;
      spelled = ap path_of new.directory.are;
      good = new.directory.good;
      project = project;
    } in
    rw (← same) (AreGood-append anchors (bound.anchor, path_of bound.directory) good one nested.0)

option_good : (anchors now : Bindings) (line : ℕ) (text : List ℕ) (found : Option BoundLine) (e : Diag) → AreGood anchors
    → bound_line text ≡ found
    → option_map_or (bound_more anchors line) found (Err e) ≡ Ok now → AreGood now
option_good anchors now line text None e good so is = absurd cc
option_good anchors now line text (Some bound) e good so is =
    bound_good anchors now line bound good (line_good text bound so) is

line_keeps : (anchors now : Bindings) (line : ℕ) (text : List ℕ) (skip : Bool) (e : Diag) → AreGood anchors
    → (if skip then Ok anchors else option_map_or (bound_more anchors line) (bound_line text) (Err e)) ≡ Ok now
    → AreGood now
line_keeps anchors now line text true e good is = let same : anchors ≡ now = cc in rw (← same) good
line_keeps anchors now line text false e good is = option_good anchors now line text (bound_line text) e good refl is

lines_keep : (texts : List (List ℕ)) (anchors now : Bindings) (line : ℕ) → AreGood anchors
    → after_lines anchors line texts ≡ Ok now → AreGood now
lines_keep [] anchors now line good is = let same : anchors ≡ now = cc in rw (← same) good
lines_keep (text ∷ texts) anchors now line good is =
    by_line (λ more kept. lines_keep texts more now (line + 1) kept) (after_line anchors line text) refl is
  where
    by_line : ((more : Bindings) → AreGood more → after_lines more (line + 1) texts ≡ Ok now → AreGood now)
        → (r : Result Bindings Diag) → after_line anchors line text ≡ r
        → and_then r (λ more. after_lines more (line + 1) texts) ≡ Ok now → AreGood now
    by_line rest (Err diag) so after = absurd cc
    by_line rest (Ok more) so after =
        rest more (line_keeps anchors more line text (is_skipped text) (refusal 2 line 1 []) good so) after

pub bindings_good : (anchors : Bindings) → AreBindings anchors → AreGood anchors
bindings_good anchors are = lines_keep (lines_of are.text) [] anchors 1 tt are.gives

-- ---- look-ups

lookup_good : (anchors : Bindings) (anchor directory : List ℕ) → AreGood anchors → bound_to anchors anchor ≡ Some directory
    → IsBinding (anchor, directory)
lookup_good [] anchor directory good is = absurd cc
lookup_good (bound ∷ anchors) anchor directory good is =
    by_test (λ so. lookup_good anchors anchor directory good.1.1 so) (pointwise nat_eq anchor bound.0) refl is
  where
    by_test : (bound_to anchors anchor ≡ Some directory → IsBinding (anchor, directory))
        → (b : Bool) → pointwise nat_eq anchor bound.0 ≡ b
        → (if b then Some bound.1 else bound_to anchors anchor) ≡ Some directory → IsBinding (anchor, directory)
    by_test rest true same so =
        let name : anchor ≡ bound.0 = same_text anchor bound.0 (sym same) in
        let held : bound.1 ≡ directory = cc in
        record {
          anchor = ap (λ a. length a == 0) name ∙ good.0.anchor;
          first = good.0.first;
          parts = good.0.parts;
          spelled = sym held ∙ good.0.spelled;
          good = good.0.good;
          project = good.0.project;
        }
    by_test rest false other so = rest so

pub bound_good_at : (anchors : Bindings) (anchor directory : List ℕ) → AreBindings anchors
    → bound_to anchors anchor ≡ Some directory → IsBinding (anchor, directory)
bound_good_at anchors anchor directory are = lookup_good anchors anchor directory (bindings_good anchors are)

-- a later binding is apart
apart_at : (bound : List ℕ × List ℕ) (anchors : Bindings) (anchor directory : List ℕ) → ApartFrom bound anchors
    → bound_to anchors anchor ≡ Some directory → touches (parts_of directory) (parts_of bound.1) ≡ false
apart_at bound [] anchor directory apart is = absurd cc
apart_at bound (other ∷ anchors) anchor directory apart is =
    by_test (λ so. apart_at bound anchors anchor directory apart.1 so) (pointwise nat_eq anchor other.0) is
  where
    by_test : (bound_to anchors anchor ≡ Some directory → touches (parts_of directory) (parts_of bound.1) ≡ false)
        → (b : Bool) → (if b then Some other.1 else bound_to anchors anchor) ≡ Some directory
        → touches (parts_of directory) (parts_of bound.1) ≡ false
    by_test rest true so = let held : other.1 ≡ directory = cc in rw (← held) apart.0
    by_test rest false so = rest so

touches-swap : (a b : List (List ℕ)) → touches a b ≡ touches b a
touches-swap a b = swapped (begins_with a b) (begins_with b a)
  where
    swapped : (x y : Bool) → (x || y) ≡ (y || x)
    swapped true true = refl
    swapped true false = refl
    swapped false true = refl
    swapped false false = refl

-- anchors whose directories touch are one
one_anchor : (anchors : Bindings) (a b d e : List ℕ) → AreGood anchors → bound_to anchors a ≡ Some d
    → bound_to anchors b ≡ Some e → touches (parts_of d) (parts_of e) ≡ true → a ≡ b
one_anchor [] a b d e good x y touch = absurd cc
one_anchor (bound ∷ anchors) a b d e good x y touch =
    by_tests (λ p q. one_anchor anchors a b d e good.1.1 p q touch) (pointwise nat_eq a bound.0)
    (pointwise nat_eq b bound.0) refl refl x y
  where
    by_tests : (bound_to anchors a ≡ Some d → bound_to anchors b ≡ Some e → a ≡ b) → (s t : Bool)
        → pointwise nat_eq a bound.0 ≡ s → pointwise nat_eq b bound.0 ≡ t
        → (if s then Some bound.1 else bound_to anchors a) ≡ Some d
        → (if t then Some bound.1 else bound_to anchors b) ≡ Some e → a ≡ b
    by_tests rest true true p q x y = same_text a bound.0 (sym p) ∙ sym (same_text b bound.0 (sym q))
    by_tests rest true false p q x y =
        let held : bound.1 ≡ d = cc in
        let apart : touches (parts_of e) (parts_of d) ≡ false = rw (← held) (apart_at bound anchors b e good.1.0 y) in
        absurd (cc (touches-swap (parts_of d) (parts_of e), apart, touch))
    by_tests rest false true p q x y =
        let held : bound.1 ≡ e = cc in
        let apart : touches (parts_of d) (parts_of e) ≡ false = rw (← held) (apart_at bound anchors a d good.1.0 x) in
        absurd (cc (apart, touch))
    by_tests rest false false p q x y = rest x y

pub one_anchor_at : (anchors : Bindings) (a b d e : List ℕ) → AreBindings anchors → bound_to anchors a ≡ Some d
    → bound_to anchors b ≡ Some e → touches (parts_of d) (parts_of e) ≡ true → a ≡ b
one_anchor_at anchors a b d e are = one_anchor anchors a b d e (bindings_good anchors are)

-- a plain name lies in no directory of an anchor
pub unclaimed_at : (anchors : Bindings) (parts : List (List ℕ)) (anchor directory : List ℕ)
    → list_any (λ bound. begins_with parts (parts_of bound.1)) anchors ≡ false
    → bound_to anchors anchor ≡ Some directory → begins_with parts (parts_of directory) ≡ false
unclaimed_at [] parts anchor directory free is = absurd cc
unclaimed_at (bound ∷ anchors) parts anchor directory free is =
    let both = either_false (begins_with parts (parts_of bound.1))
    (list_any (λ bound. begins_with parts (parts_of bound.1)) anchors) free in
    by_test (λ so. unclaimed_at anchors parts anchor directory both.1 so) both.0 (pointwise nat_eq anchor bound.0) is
  where
    by_test : (bound_to anchors anchor ≡ Some directory → begins_with parts (parts_of directory) ≡ false)
        → begins_with parts (parts_of bound.1) ≡ false
        → (b : Bool) → (if b then Some bound.1 else bound_to anchors anchor) ≡ Some directory
        → begins_with parts (parts_of directory) ≡ false
    by_test rest none true so = let held : bound.1 ≡ directory = cc in rw (← held) none
    by_test rest none false so = rest so
