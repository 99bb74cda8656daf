-- Steps of finding names that stand twice, and the lists of one level of a tree.
use Rattle.std.proofs.Common.{◌≡◌, ℕ, Bool, true, false, ◌||◌, nat_eq, List, [], ◌∷◌, ◌++◌, Option, Some, None, if◌then◌else◌, refl, sym, ap, ap₂, ◌∙◌, append_assoc, map, drop, drop-cons, get_or, flat_map, length, ◌<◌, ◌+◌, suc, add-one, arith}
use Rattle.std.proofs.lemmas.Bool.{cases_Bool}
use Rattle.std.proofs.lemmas.List.Folds.{list_any-append}
use mathlib.Core.Logic.{⊎_elim}
use lib.Pointwise.{pointwise, bytes_decides}
use Rattle.sml_trees.specs.declared.name.At.{At}
use Rattle.sml_trees.specs.declared.name.Name.{Name}
use Rattle.sml_trees.specs.declared.name.LongName.{LongName}
use Rattle.sml_trees.specs.declared.full_ty.FullTy.{FullTy}
use Rattle.sml_trees.specs.declared.full_ty.FullTy.TheOpen.{FullTy-F}
use Rattle.sml_trees.specs.declared.full_ty.FullTy.TheFolds.{fold-roll-FullTy, fold-roll-FullTyField}
use Rattle.sml_trees.specs.declared.full_ty.FullTy.TheVariants as full
use Rattle.sml_trees.specs.declared.full_ty.FullTyField.{FullTyField, out-FullTyField, roll-out-FullTyField}
use Rattle.sml_trees.specs.declared.full_ty.OpName.{OpName}
use Rattle.sml_trees.specs.declared.full_pat.FullPat.{FullPat}
use Rattle.sml_trees.specs.declared.full_pat.FullPat.TheOpen.{FullPat-F, FullPatField-F}
use Rattle.sml_trees.specs.declared.full_pat.FullPat.TheFolds.{fold-roll-FullPat, fold-roll-FullPatField}
use Rattle.sml_trees.specs.declared.full_pat.FullPat.TheVariants as full_pat
use Rattle.sml_trees.specs.declared.full_pat.FullPatField.{FullPatField}
use Rattle.sml_trees.specs.declared.full_pat.FullPatField.TheVariants as field
use Rattle.sml_trees.specs.declared.full_pat.FullPatItem.{FullPatItem}
use Rattle.bare_forms.specs.Patterns.{at_name}
use Rattle.repeated_names.specs.Repeats.{Member, member, is_before, is_among, earliest_with, sooner, place_again, repeats_behind, repeats_in, all_repeats, option_repeats}
use Rattle.repeated_names.specs.Finding.{names_then, names_behind, found_behind}
use Rattle.repeated_names.specs.RepeatedTypes.{optional_ty, ty_level, ty_field_level, ty_repeats, ty_field_member, pat_level, pat_field_level, pat_item_level, pat_repeats, pat_field_member, pat_item_repeats}
use Rattle.std.specs.Option.{option_map}

-- ---- places and names one after another

pub earliest_with-append : (first : Option At) (xs ys : List At)
    → earliest_with first (xs ++ ys) ≡ earliest_with (earliest_with first xs) ys
earliest_with-append first [] ys = refl
earliest_with-append first (x ∷ xs) ys = earliest_with-append (sooner first x) xs ys

pub found_behind-append : (seen : List (List ℕ)) (xs ys : List Member)
    → found_behind seen (xs ++ ys) ≡ found_behind seen xs ++ found_behind (names_behind seen xs) ys
found_behind-append seen [] ys = refl
found_behind-append seen (m ∷ ms) ys =
    let next = names_then seen m.name in
    ap (λ rest. place_again seen m.name ++ (m.inside ++ rest)) (found_behind-append next ms ys)
    ∙ ap (λ rest. place_again seen m.name ++ rest)
    (sym (append_assoc m.inside (found_behind next ms) (found_behind (names_behind next ms) ys)))
    ∙ sym (append_assoc (place_again seen m.name) (m.inside ++ found_behind next ms)
    (found_behind (names_behind next ms) ys))

-- ---- the names that were seen, each kept once, are the names that stand before

-- the same names, however often and in whatever order
abbrev pub SameNames : List (List ℕ) → List (List ℕ) → Type 0
SameNames seen before = (text : List ℕ) → is_among seen text ≡ is_among before text

or_false : (a b : Bool) → (a || (b || false)) ≡ (b || a)
or_false true true = refl
or_false true false = refl
or_false false true = refl
or_false false false = refl

or_here : (a b : Bool) → (a ≡ true → b ≡ true) → b ≡ (a || b)
or_here true b here = here refl
or_here false b here = refl

then-old : (seen : List (List ℕ)) (name text : List ℕ) → is_among seen name ≡ true
    → is_among seen text ≡ (pointwise nat_eq text name || is_among seen text)
then-old seen name text known =
    or_here (pointwise nat_eq text name) (is_among seen text)
    (λ same. ap (is_among seen) ((bytes_decides text name).0 same) ∙ known)

then-is : (seen : List (List ℕ)) (name : Name) (text : List ℕ)
    → is_among (names_then seen name) text ≡ (pointwise nat_eq text name.text || is_among seen text)
then-is seen name text =
    ⊎_elim
    (λ known. ap (λ b. is_among (if b then seen else (seen ++ name.text ∷ [])) text) known
    ∙ then-old seen name.text text known)
    (λ fresh. ap (λ b. is_among (if b then seen else (seen ++ name.text ∷ [])) text) fresh
    ∙ list_any-append (λ other. pointwise nat_eq text other) seen (name.text ∷ [])
    ∙ or_false (is_among seen text) (pointwise nat_eq text name.text))
    (cases_Bool (is_among seen name.text))

same_then : (seen before : List (List ℕ)) (name : Name) → SameNames seen before
    → SameNames (names_then seen name) (name.text ∷ before)
same_then seen before name same text =
    then-is seen name text ∙ ap (λ b. pointwise nat_eq text name.text || b) (same text)

found_behind-is : (seen before : List (List ℕ)) (ms : List Member) → SameNames seen before
    → found_behind seen ms ≡ repeats_behind before ms
found_behind-is seen before [] same = refl
found_behind-is seen before (m ∷ ms) same =
    ap₂ (λ here rest. here ++ (m.inside ++ rest))
    (ap (λ b. if b then (at_name m.name ∷ []) else []) (same m.name.text))
    (found_behind-is (names_then seen m.name) (m.name.text ∷ before) ms (same_then seen before m.name same))

-- what is found in a whole list is what stands twice in it
pub found_in : (ms : List Member) → found_behind [] ms ≡ repeats_in ms
found_in ms = found_behind-is [] [] ms (λ text. refl)

-- ---- a loop over phrases, and one over members

-- what is left of a list, whose next item is this
pub left_at : {B : Type 0} (items : List B) (i : ℕ) (item : B) → i < length items → item ≡ get_or items i item
    → drop i items ≡ item ∷ drop (i + 1) items
left_at items i item lt is = drop-cons items i item lt ∙ ap (λ b. b ∷ drop (suc i) items) (sym is)
    ∙ ap (λ n. item ∷ drop n items) (sym (add-one i))

-- a phrase more is searched
pub phrase_step : {B : Type 0} (repeats : B → List At) (items : List B) (i : ℕ) (item : B) (old new whole : Option At)
    → i < length items → item ≡ get_or items i item → new ≡ earliest_with old (repeats item)
    → earliest_with old (all_repeats (map repeats (drop i items))) ≡ whole
    → earliest_with new (all_repeats (map repeats (drop (i + 1) items))) ≡ whole
phrase_step repeats items i item old new whole lt here found is =
    ap (λ first. earliest_with first (all_repeats (map repeats (drop (i + 1) items)))) found
    ∙ sym (earliest_with-append old (repeats item) (all_repeats (map repeats (drop (i + 1) items))))
    ∙ ap (λ left. earliest_with old (all_repeats (map repeats left))) (sym (left_at items i item lt here))
    ∙ is

-- a member more is seen, and its inside searched
pub member_step : {B : Type 0} (listed : B → Member) (items : List B) (i : ℕ) (item : B) (m : Member)
    (old mid new whole : Option At) (seen keys : List (List ℕ))
    → i < length items → item ≡ get_or items i item → listed item ≡ m
    → mid ≡ earliest_with old (place_again seen m.name) → keys ≡ names_then seen m.name
    → new ≡ earliest_with mid m.inside
    → earliest_with old (found_behind seen (map listed (drop i items))) ≡ whole
    → earliest_with new (found_behind keys (map listed (drop (i + 1) items))) ≡ whole
member_step listed items i item m old mid new whole seen keys lt here kept saw names found is =
    let rest = map listed (drop (i + 1) items) in
    ap₂ (λ first ks. earliest_with first (found_behind ks rest)) (found ∙ ap (λ f. earliest_with f m.inside) saw) names
    ∙ sym (earliest_with-append (earliest_with old (place_again seen m.name)) m.inside
    (found_behind (names_then seen m.name) rest))
    ∙ sym (earliest_with-append old (place_again seen m.name) (m.inside ++ found_behind (names_then seen m.name) rest))
    ∙ ap (λ each. earliest_with old (found_behind seen (each ∷ rest))) (sym kept)
    ∙ ap (λ left. earliest_with old (found_behind seen (map listed left))) (sym (left_at items i item lt here))
    ∙ is

-- .. and the names before what follows
pub names_step : {B : Type 0} (listed : B → Member) (items : List B) (i : ℕ) (item : B) (m : Member)
    (seen keys whole : List (List ℕ))
    → i < length items → item ≡ get_or items i item → listed item ≡ m → keys ≡ names_then seen m.name
    → names_behind seen (map listed (drop i items)) ≡ whole
    → names_behind keys (map listed (drop (i + 1) items)) ≡ whole
names_step listed items i item m seen keys whole lt here kept names is =
    ap (λ ks. names_behind ks (map listed (drop (i + 1) items))) names
    ∙ ap (λ each. names_behind seen (each ∷ map listed (drop (i + 1) items))) (sym kept)
    ∙ ap (λ left. names_behind seen (map listed left)) (sym (left_at items i item lt here))
    ∙ is

-- a group of members more is searched
pub group_step : {B : Type 0} (group : B → List Member) (items : List B) (i : ℕ) (item : B)
    (old new whole : Option At) (seen keys : List (List ℕ))
    → i < length items → item ≡ get_or items i item
    → new ≡ earliest_with old (found_behind seen (group item)) → keys ≡ names_behind seen (group item)
    → earliest_with old (found_behind seen (flat_map group (drop i items))) ≡ whole
    → earliest_with new (found_behind keys (flat_map group (drop (i + 1) items))) ≡ whole
group_step group items i item old new whole seen keys lt here found names is =
    let rest = flat_map group (drop (i + 1) items) in
    ap₂ (λ first ks. earliest_with first (found_behind ks rest)) found names
    ∙ sym (earliest_with-append old (found_behind seen (group item)) (found_behind (names_behind seen (group item)) rest))
    ∙ ap (earliest_with old) (sym (found_behind-append seen (group item) rest))
    ∙ ap (λ left. earliest_with old (found_behind seen (flat_map group left))) (sym (left_at items i item lt here))
    ∙ is

pub ruleset found_steps = (earliest_with-append)

pub ruleset seen_steps = (found_in)

-- ---- types

pub ty_repeats-Record : (fields : List FullTyField) (at : At)
    → ty_repeats (full.Record fields at) ≡ repeats_in (map ty_field_member fields)
ty_repeats-Record fields at =
    ap ty_repeats (sym (full.rolls-Record fields at))
    ∙ fold-roll-FullTy _ _ ty_level ty_field_level (FullTy-F.Record fields at)

pub ty_repeats-AppliedAll : (args : List FullTy) (long : LongName) (at : At)
    → ty_repeats (full.AppliedAll args long at) ≡ all_repeats (map ty_repeats args)
ty_repeats-AppliedAll args long at =
    ap ty_repeats (sym (full.rolls-AppliedAll args long at))
    ∙ fold-roll-FullTy _ _ ty_level ty_field_level (FullTy-F.AppliedAll args long at)

pub ty_repeats-Tuple : (parts : List FullTy) (at : At)
    → ty_repeats (full.Tuple parts at) ≡ all_repeats (map ty_repeats parts)
ty_repeats-Tuple parts at =
    ap ty_repeats (sym (full.rolls-Tuple parts at))
    ∙ fold-roll-FullTy _ _ ty_level ty_field_level (FullTy-F.Tuple parts at)

pub ty_repeats-Arrow : (from to : FullTy) (at : At) → ty_repeats (full.Arrow from to at) ≡ ty_repeats from ++ ty_repeats to
ty_repeats-Arrow from to at =
    ap ty_repeats (sym (full.rolls-Arrow from to at))
    ∙ fold-roll-FullTy _ _ ty_level ty_field_level (FullTy-F.Arrow from to at)

pub ty_field_member-kept : (each : FullTyField) → ty_field_member each ≡ member (out-FullTyField each).label (ty_repeats (out-FullTyField each).ty)
ty_field_member-kept each =
    ap ty_field_member (sym (roll-out-FullTyField each))
    ∙ fold-roll-FullTyField _ _ ty_level ty_field_level (out-FullTyField each)

pub ruleset ty_steps = (earliest_with-append, ty_repeats-Arrow, ty_repeats-Record, ty_repeats-AppliedAll, ty_repeats-Tuple, ty_field_member-kept)

-- ---- patterns

pub pat_repeats-Record : (fields : List FullPatField) (at : At)
    → pat_repeats (full_pat.Record fields at) ≡ repeats_in (map pat_field_member fields)
pat_repeats-Record fields at =
    ap pat_repeats (sym (full_pat.rolls-Record fields at))
    ∙ fold-roll-FullPat _ _ _ pat_level pat_field_level pat_item_level (FullPat-F.Record fields at)

pub pat_repeats-Tuple : (parts : List FullPat) (at : At)
    → pat_repeats (full_pat.Tuple parts at) ≡ all_repeats (map pat_repeats parts)
pat_repeats-Tuple parts at =
    ap pat_repeats (sym (full_pat.rolls-Tuple parts at))
    ∙ fold-roll-FullPat _ _ _ pat_level pat_field_level pat_item_level (FullPat-F.Tuple parts at)

pub pat_repeats-List : (items : List FullPat) (at : At)
    → pat_repeats (full_pat.List items at) ≡ all_repeats (map pat_repeats items)
pat_repeats-List items at =
    ap pat_repeats (sym (full_pat.rolls-List items at))
    ∙ fold-roll-FullPat _ _ _ pat_level pat_field_level pat_item_level (FullPat-F.List items at)

pub pat_repeats-Run : (items : List FullPatItem) (at : At)
    → pat_repeats (full_pat.Run items at) ≡ all_repeats (map pat_item_repeats items)
pat_repeats-Run items at =
    ap pat_repeats (sym (full_pat.rolls-Run items at))
    ∙ fold-roll-FullPat _ _ _ pat_level pat_field_level pat_item_level (FullPat-F.Run items at)

pub pat_repeats-Typed : (inner : FullPat) (ty : FullTy) (at : At)
    → pat_repeats (full_pat.Typed inner ty at) ≡ pat_repeats inner ++ ty_repeats ty
pat_repeats-Typed inner ty at =
    ap pat_repeats (sym (full_pat.rolls-Typed inner ty at))
    ∙ fold-roll-FullPat _ _ _ pat_level pat_field_level pat_item_level (FullPat-F.Typed inner ty at)

pub pat_repeats-As : (name : OpName) (ty : Option FullTy) (inner : FullPat) (at : At)
    → pat_repeats (full_pat.As name ty inner at) ≡ optional_ty ty ++ pat_repeats inner
pat_repeats-As name ty inner at =
    ap pat_repeats (sym (full_pat.rolls-As name ty inner at))
    ∙ fold-roll-FullPat _ _ _ pat_level pat_field_level pat_item_level (FullPat-F.As name ty inner at)

pub pat_field_member-Labelled : (label : Name) (p : FullPat)
    → pat_field_member (field.Labelled label p) ≡ member label (pat_repeats p)
pat_field_member-Labelled label p =
    ap pat_field_member (sym (field.rolls-Labelled label p))
    ∙ fold-roll-FullPatField _ _ _ pat_level pat_field_level pat_item_level (FullPatField-F.Labelled label p)

pub pat_field_member-Named : (name : Name) (ty : Option FullTy) (p : Option FullPat)
    → pat_field_member (field.Named name ty p) ≡ member name (optional_ty ty ++ option_repeats (option_map pat_repeats p))
pat_field_member-Named name ty None =
    ap pat_field_member (sym (field.rolls-Named name ty None))
    ∙ fold-roll-FullPatField _ _ _ pat_level pat_field_level pat_item_level (FullPatField-F.Named name ty None)
pat_field_member-Named name ty (Some p) =
    ap pat_field_member (sym (field.rolls-Named name ty (Some p)))
    ∙ fold-roll-FullPatField _ _ _ pat_level pat_field_level pat_item_level (FullPatField-F.Named name ty (Some p))

pub ruleset pat_steps = (
  earliest_with-append,
  pat_repeats-Typed,
  pat_repeats-As,
  pat_repeats-Record,
  pat_repeats-Tuple,
  pat_repeats-List,
  pat_repeats-Run,
  pat_field_member-Labelled,
  pat_field_member-Named,
)
