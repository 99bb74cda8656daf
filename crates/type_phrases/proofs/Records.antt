-- The record type of fields is that of the definitions.
use Rattle.std.proofs.Common.{◌≡◌, ℕ, zero, suc, slice_get, List, [], ◌∷◌, ◌++◌, map, refl, sym, ap, ap₂, ◌∙◌, subst, Option, Some, None, Bool, true, false, cond}
use Rattle.std.specs.Prelude.{IsPermutation}
use Rattle.std.specs.Option.{option_map, is_some}
use Rattle.std.proofs.lemmas.List.Sorted.{All-permutation, IsPermutation-map, IsPermutation-sym}
use Rattle.std.proofs.lemmas.List.Elements.{All-from_recursion, recursion_from_All}
use Rattle.std.specs.Cmp.Lexicographic.{nat_list_eq_equiv}
use Rattle.semantic_objects.specs.declared.name.TyId.{TyId}
use Rattle.semantic_objects.specs.declared.symbol.Symbol.TheVariants as symbol
use Rattle.semantic_objects.specs.Symbols.{same_text, AreRising, AreApart, AreDiffering}
use Rattle.semantic_objects.specs.Tables.{Table as Named, entry, names_of}
use Rattle.semantic_objects.proofs.Same.{text_is}
use Rattle.unification.specs.Types.{Ty, Types}
use Rattle.type_nodes.specs.Tables.{Table, Has, type_of, types_of}
use Rattle.type_schemes.specs.Schemes.{HaveAll}
use Rattle.sml_modules.specs.Items.{map_rows}
use Rattle.name_trails.specs.Trails.{Rows, same, entry_after, last_entry}
use Rattle.sml_types.specs.declared.look.LookField.{LookField}
use Rattle.sml_types.specs.Looking.{labels_of, ids_of, IsRecordType}
use Rattle.static_semantics.specs.BasicTypes.{record_ty, types_of as listed_types}
use Rattle.core_scopes.proofs.Tables.{or_held, entry_or, entry_over}
use Rattle.type_phrases.specs.Inferred.{HaveRows, made_fields}
use Rattle.type_phrases.specs.Steps.{ids_in}
use Rattle.type_phrases.proofs.Standing.{Stands, AllStand, stand_from, table_is}

-- ---- a record type that was made

abbrev typed : Table → LookField → List ℕ × Ty
typed t f = (f.label, type_of t f.part)

names_typed : (t : Table) (fs : List LookField) → names_of (map (typed t) fs) ≡ labels_of fs
names_typed t [] = refl
names_typed t (f ∷ fs) = ap (λ ls. f.label ∷ ls) (names_typed t fs)

types_typed : (t : Table) (fs : List LookField)
    → listed_types (map (λ row. row.1) (map (typed t) fs)) ≡ types_of t (ids_of fs)
types_typed t [] = refl
types_typed t (f ∷ fs) = ap (Types.Cons (type_of t f.part)) (types_typed t fs)

typed_rows : (t : Table) (fs : List LookField) (rows : Rows TyId) → labels_of fs ≡ names_of rows
    → ids_of fs ≡ ids_in rows → map (typed t) fs ≡ map_rows (type_of t) rows
typed_rows t [] [] h k = refl
typed_rows t [] (row ∷ rows) h k = absurd (cc)
typed_rows t (f ∷ fs) [] h k = absurd (cc)
typed_rows t (f ∷ fs) (row ∷ rows) h k =
    let a : f.label ≡ row.0 = cc in
    let b : f.part ≡ row.1 = cc in
    let c : labels_of fs ≡ names_of rows = cc in
    let d : ids_of fs ≡ ids_in rows = cc in
    ap₂ (λ n (x : TyId). (n, type_of t x) ∷ map (typed t) fs) a b
    ∙ ap (λ rest. (row.0, type_of t row.1) ∷ rest) (typed_rows t fs rows c d)

names_kept : {A B : Type 0} (f : A → B) (rows : Rows A) → names_of (map_rows f rows) ≡ names_of rows
names_kept f [] = refl
names_kept f (row ∷ rows) = ap (λ ls. row.0 ∷ ls) (names_kept f rows)

moved_stand : {A : Type 0} (xs ys zs : Named A) → IsPermutation xs ys → AllStand xs zs → AllStand ys zs
moved_stand xs ys zs m h =
    recursion_from_All (λ z. Stands z zs) ys
    (All-permutation (λ z. Stands z zs) xs ys m (All-from_recursion (λ z. Stands z zs) xs h))

pub record_is : (t : Table) (rows : Rows TyId) (u : Ty) → AreDiffering (names_of rows)
    → IsRecordType t (names_of rows) (ids_in rows) u → u ≡ record_ty (made_fields t rows)
record_is t rows u d h =
    let given : Named Ty = map_rows (type_of t) rows in
    let sorted : Named Ty = map (typed t) h.sorted in
    let is_given : map (typed t) h.fields ≡ given = typed_rows t h.fields rows h.given_labels h.given_ids in
    let moved : IsPermutation given sorted =
    subst (λ xs. IsPermutation xs sorted) is_given (IsPermutation-map (typed t) h.fields h.sorted h.permutation) in
    let differing : AreDiffering (names_of given) = subst AreDiffering (sym (names_kept (type_of t) rows)) d in
    let rising : AreRising (names_of sorted) = subst AreRising (sym (names_typed t h.sorted)) h.rising in
    let a : AllStand given sorted =
    moved_stand sorted given sorted (IsPermutation-sym given sorted moved) (stand_from sorted sorted (λ z k. k)) in
    let b : AllStand sorted given = moved_stand given sorted given moved (stand_from given given (λ z k. k)) in
    h.is
    ∙ ap₂ (λ ls ts. Ty.Made (symbol.Record ls) ts) (sym (names_typed t h.sorted)) (sym (types_typed t h.sorted))
    ∙ ap record_ty (table_is given sorted differing rising a b)

-- ---- labels

is_found : {A B : Type 0} (f : A → B) (o : Option A) → is_some (or_held (option_map f o) None) ≡ is_some o
is_found f None = refl
is_found f (Some x) = refl

pub label_found : (t : Table) (rows : Rows TyId) (name : List ℕ)
    → is_some (entry name (made_fields t rows)) ≡ is_some (last_entry rows name)
label_found t rows name =
    ap is_some (entry_over (type_of t) rows [] name) ∙ is_found (type_of t) (last_entry rows name)

none_both : {A : Type 0} (a b : Option A) → or_held a b ≡ None → (a ≡ None) × (b ≡ None)
none_both None b h = (refl, h)
none_both (Some x) b h = absurd (cc)

no_entry : {A : Type 0} (b : Bool) (x : A) → cond b (Some x) None ≡ None → b ≡ false
no_entry true x h = absurd (cc)
no_entry false x h = refl

-- two plain functions say whether two texts are one
pub texts_apart : (a b : List ℕ) → same a b ≡ false → same_text a b ≡ false
texts_apart a b h = by_test (same_text a b) refl
  where
    by_test : (c : Bool) → same_text a b ≡ c → c ≡ false
    by_test true e =
        let k : same a a ≡ true = nat_list_eq_equiv.refl a in
        let l : same a a ≡ false = subst (λ z. same a z ≡ false) (sym (text_is a b e)) h in
        absurd (cc)
    by_test false e = refl

apart_snoc : {A : Type 0} (l : List ℕ) (rows : Rows A) (name : List ℕ) (x : A) → AreApart l (names_of rows)
    → same_text l name ≡ false → AreApart l (names_of (rows ++ (name, x) ∷ []))
apart_snoc l [] name x h k = (k, tt)
apart_snoc l (row ∷ rows) name x h k = (h.0, apart_snoc l rows name x h.1 k)

differ_snoc : {A : Type 0} (rows : Rows A) (name : List ℕ) (x : A) → AreDiffering (names_of rows)
    → entry_after None rows name ≡ None → AreDiffering (names_of (rows ++ (name, x) ∷ []))
differ_snoc [] name x h k = (tt, tt)
differ_snoc {A} (row ∷ rows) name x h k =
    let both : (entry_after None rows name ≡ None) × (cond (same row.0 name) (Some row.1) None ≡ None) =
    none_both (entry_after None rows name) (cond (same row.0 name) (Some row.1) None)
    (sym (entry_or (cond (same row.0 name) (Some row.1) None) rows name) ∙ k) in (
      apart_snoc row.0 rows name x h.0 (texts_apart row.0 name (no_entry (same row.0 name) row.1 both.1)),
      differ_snoc rows name x h.1 both.0,
    )

pub differ_more : {A : Type 0} (rows new : Rows A) (name : List ℕ) (x : A) → AreDiffering (names_of rows)
    → last_entry rows name ≡ None → new ≡ rows ++ (name, x) ∷ [] → AreDiffering (names_of new)
unfolding last_entry
differ_more {A} rows new name x h k e =
    subst (λ (z : Rows A). AreDiffering (names_of z)) (sym e) (differ_snoc rows name x h k)

-- ---- the parts of fields

pub have_rows : (t : Table) (rows : Rows TyId) (i : ℕ) (a : TyId) → HaveRows t rows → slice_get (ids_in rows) i ≡ Some a
    → Has t a
have_rows t [] i a h e = absurd (cc)
have_rows t (row ∷ rows) zero a h e = let f : row.1 ≡ a = cc in subst (Has t) f h.0
have_rows t (row ∷ rows) (suc i) a h e = have_rows t rows i a h.1 e

pub have_parts : (t : Table) (rows : Rows TyId) (parts : List TyId) → HaveRows t rows → parts ≡ ids_in rows
    → HaveAll t parts
have_parts t rows parts h e = subst (HaveAll t) (sym e) (λ i a k. have_rows t rows i a h k)

pub record_made : (t : Table) (rows : Rows TyId) (labels : List (List ℕ)) (parts : List TyId) (u : Ty)
    → AreDiffering (names_of rows) → labels ≡ names_of rows → parts ≡ ids_in rows → IsRecordType t labels parts u
    → u ≡ record_ty (made_fields t rows)
record_made t rows labels parts u d e f h =
    record_is t rows u d
    (subst (λ ls. IsRecordType t ls (ids_in rows) u) e (subst (λ ps. IsRecordType t labels ps u) f h))
