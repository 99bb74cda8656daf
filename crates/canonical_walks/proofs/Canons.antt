-- The canonical forms of signatures and functors of a graph.
use Rattle.std.proofs.Common.{◌≡◌, ℕ, List, [], ◌∷◌, refl, sym, ap, ap₂, ◌∙◌, subst, Some, None, cond, nat_eq}
use Rattle.std.specs.Prelude.{Result, Ok, Err, IfOk, OnErr}
use Rattle.std.proofs.lemmas.Bool.{eqb-true}
use Rattle.unification.proofs.Walking.{either_way}
use Rattle.semantic_objects.specs.declared.name.TyName.{TyName}
use Rattle.semantic_objects.specs.Tables.{Table}
use Rattle.semantic_objects.specs.Environments.{Signature, Functor}
use Rattle.sml_modules.specs.declared.id.EnvId.{EnvId}
use Rattle.sml_modules.specs.Items.{Item, at, as_signature, as_functor, IsSignature, IsFunctor, map_rows}
use Rattle.sml_modules.specs.Graphs.{Graph, env_at}
use Rattle.sml_modules.specs.Nodes.{AreAll}
use Rattle.sml_modules.specs.Adding.{Extends, Adds}
use Rattle.sml_modules.proofs.Unfolding.{Never, at_more, all_more}
use Rattle.sml_modules.proofs.Keeping.{extends_self}
use Rattle.realisation.specs.Environments.{each_row}
use Rattle.realisation.specs.Canonical.{to_canonical, canonical_env, canonical_signature, canonical_functor}
use Rattle.environment_walks.specs.declared.places.Images.{Images}
use Rattle.environment_walks.specs.Changing.{image_in, AreChanged, AreMapped}
use Rattle.environment_walks.proofs.Changes.{IsSet, images_later}
use Rattle.environment_walks.proofs.Mapping.{mapped_name, mapped_image, mapped_rest}
use Rattle.canonical_types.specs.Orders.{by_order}
use Rattle.canonical_walks.specs.Binders.{unchanged, signature_with, functor_with, NoneBound, IsCanon, CanonAt, AreCanon, CanonRows}
use Rattle.canonical_walks.proofs.Binding.{sig_moved, fun_moved}

pub both_ok : {A E : Type 0} {P Q R : A → Type 0} (r : Result A E) → IfOk r P → IfOk r Q
    → ((x : A) → P x → Q x → R x) → IfOk r R
both_ok (Ok x) h k f = f x h k
both_ok (Err e) h k f = tt

-- ---- nodes that are added

pub item_added : {E : Type 0} (old new : Graph) (item wanted : Item) (r : Result ℕ E) → IfOk r (Adds old new item)
    → item ≡ wanted → IfOk r (λ p. at new.items p ≡ wanted)
item_added old new item wanted (Ok p) a e = a.stands ∙ e
item_added old new item wanted (Err f) a e = tt

pub added_extends : {E : Type 0} (old new : Graph) (item : Item) (r : Result ℕ E) → IfOk r (Adds old new item)
    → OnErr r (new ≡ old) → Extends old new
added_extends old new item (Ok p) a e = a.extends
added_extends old new item (Err f) a e = subst (Extends old) (sym e) (extends_self old)

-- ---- what stands in a graph that grew

pub still : (Is : Item → Type 0) → Never Is → (old new : Graph) → Extends old new → (p : ℕ) → Is (at old.items p)
    → at new.items p ≡ at old.items p
still Is none old new e p h = ap (λ z. at z p) e.items ∙ at_more Is none old.items e.more p h

pub all_still : (Is : Item → Type 0) → Never Is → (old new : Graph) → Extends old new → (rows : Table ℕ)
    → AreAll Is old.items rows → AreAll Is new.items rows
all_still Is none old new e rows h =
    subst (λ z. AreAll Is z rows) (sym e.items) (all_more Is none old.items e.more rows h)

pub rows_still : {X : Type 0} (Is : Item → Type 0) → Never Is → (f : Item → X) (old new : Graph) → Extends old new
    → (rows : Table ℕ) → AreAll Is old.items rows
    → map_rows (λ p. f (at new.items p)) rows ≡ map_rows (λ p. f (at old.items p)) rows
rows_still Is none f old new e [] h = refl
rows_still Is none f old new e (r ∷ rs) h = ap₂ (λ x xs. (r.0, x) ∷ xs)
    (ap f (still Is none old new e r.1 h.0)) (rows_still Is none f old new e rs h.1)

some_signature : (x : Item) → IsSignature x → x ≡ Item.SignatureItem (as_signature x)
some_signature (Item.SignatureItem s) h = refl
some_signature Item.Nowhere h = absurd h
some_signature (Item.TypeItem x) h = absurd h
some_signature (Item.ValueItem x) h = absurd h
some_signature (Item.EnvItem x) h = absurd h
some_signature (Item.FunctorItem x) h = absurd h
some_signature (Item.TopItem x) h = absurd h

some_functor : (x : Item) → IsFunctor x → x ≡ Item.FunctorItem (as_functor x)
some_functor (Item.FunctorItem f) h = refl
some_functor Item.Nowhere h = absurd h
some_functor (Item.TypeItem x) h = absurd h
some_functor (Item.ValueItem x) h = absurd h
some_functor (Item.EnvItem x) h = absurd h
some_functor (Item.SignatureItem x) h = absurd h
some_functor (Item.TopItem x) h = absurd h

-- ---- one binder

pub sig_canon : {E : Type 0} (own : List TyName) (old mid new : Graph) (images : Images) (p : ℕ) (sig : Signature)
    (env : EnvId) (r : Result ℕ E) → NoneBound own → IsSignature (at old.items p) → sig ≡ as_signature (at old.items p)
    → env_at mid env ≡ canonical_env (by_order own) sig.env → AreChanged (to_canonical (by_order own)) mid.items images
    → Extends mid new
    → IfOk r (λ q. at new.items q ≡ Item.SignatureItem (canonical_signature unchanged (signature_with (env_at mid env))))
    → IfOk r (CanonAt own old new images p)
sig_canon own old mid new images p sig env (Err f) none h k e c x i = tt
sig_canon own old mid new images p sig env (Ok q) none h k e c x i = record {
  changed = images_later (to_canonical (by_order own)) mid new images x c;
  is = subst (λ z. IsCanon own z (at new.items q)) (sym (some_signature (at old.items p) h ∙ ap Item.SignatureItem (sym k)))
      (i ∙ ap (λ z. Item.SignatureItem (canonical_signature unchanged (signature_with z))) e
      ∙ ap Item.SignatureItem (sig_moved own sig none));
}

pub fun_canon : {E : Type 0} (own : List TyName) (old mid new : Graph) (images : Images) (p : ℕ) (fun : Functor)
    (param body : EnvId) (r : Result ℕ E) → NoneBound own → IsFunctor (at old.items p)
    → fun ≡ as_functor (at old.items p) → env_at mid param ≡ canonical_env (by_order own) fun.param
    → env_at mid body ≡ canonical_env (by_order own) fun.result
    → AreChanged (to_canonical (by_order own)) mid.items images → Extends mid new
    → IfOk r (λ q. at new.items q ≡ Item.FunctorItem
    (canonical_functor unchanged (functor_with fun.bound (env_at mid param) (env_at mid body))))
    → IfOk r (CanonAt own old new images p)
fun_canon own old mid new images p fun param body (Err f) none h k d e c x i = tt
fun_canon own old mid new images p fun param body (Ok q) none h k d e c x i = record {
  changed = images_later (to_canonical (by_order own)) mid new images x c;
  is = subst (λ z. IsCanon own z (at new.items q)) (sym (some_functor (at old.items p) h ∙ ap Item.FunctorItem (sym k)))
      (i ∙ ap₂ (λ x y. Item.FunctorItem (canonical_functor unchanged (functor_with fun.bound x y))) d e
      ∙ ap Item.FunctorItem (fun_moved own fun none));
}

-- ---- binders that are done

abbrev IsBinder : Item → Type 0
IsBinder (Item.SignatureItem s) = Unit {0}
IsBinder (Item.FunctorItem f) = Unit {0}
IsBinder _ = ⊥

from_binder : (own : List TyName) (x y : Item) → IsCanon own x y → IsBinder x
from_binder own (Item.SignatureItem s) y h = tt
from_binder own (Item.FunctorItem f) y h = tt
from_binder own Item.Nowhere y h = absurd h
from_binder own (Item.TypeItem x) y h = absurd h
from_binder own (Item.ValueItem x) y h = absurd h
from_binder own (Item.EnvItem x) y h = absurd h
from_binder own (Item.TopItem x) y h = absurd h

to_binder : (own : List TyName) (x y : Item) → IsCanon own x y → IsBinder y
to_binder own (Item.SignatureItem s) y h = subst IsBinder (sym h) tt
to_binder own (Item.FunctorItem f) y h = subst IsBinder (sym h) tt
to_binder own Item.Nowhere y h = absurd h
to_binder own (Item.TypeItem x) y h = absurd h
to_binder own (Item.ValueItem x) y h = absurd h
to_binder own (Item.EnvItem x) y h = absurd h
to_binder own (Item.TopItem x) y h = absurd h

no_binder : Never IsBinder
no_binder h = h

canon_from : (own : List TyName) (old new : Graph) → Extends old new → (p q : ℕ)
    → IsCanon own (at old.items p) (at new.items q) → IsCanon own (at new.items p) (at new.items q)
canon_from own old new e p q h = subst (λ z. IsCanon own z (at new.items q))
    (sym (still IsBinder no_binder old new e p (from_binder own (at old.items p) (at new.items q) h))) h

canon_later : (own : List TyName) (old new : Graph) (made : Images) → Extends old new → AreCanon own old.items made
    → AreCanon own new.items made
canon_later own old new made e h = record {
  each = λ p q i. (let k : IsCanon own (at old.items p) (at old.items q) = h.each p q i in
      canon_from own old new e p q (subst (IsCanon own (at old.items p))
      (sym (still IsBinder no_binder old new e q (to_binder own (at old.items p) (at old.items q) k))) k));
}

some_is : {A : Type 0} (x y : A) → Some x ≡ Some y → x ≡ y
some_is x y h = cc

canon_set : (own : List TyName) (items : List Item) (old new : Images) (place image : ℕ) → AreCanon own items old
    → IsCanon own (at items place) (at items image) → IsSet old new place image → AreCanon own items new
canon_set own items old new place image h k set = record {
  each = λ p q e. either_way (nat_eq place p)
      (λ s. (let i : Some image ≡ Some q = sym (ap (λ b. cond b (Some image) (image_in old p)) s) ∙ sym (set p) ∙ e in
      subst (λ z. IsCanon own (at items z) (at items q)) (eqb-true place p s)
      (subst (λ z. IsCanon own (at items place) (at items z)) (some_is image q i) k)))
      (λ s. h.each p q (sym (ap (λ b. cond b (Some image) (image_in old p)) s) ∙ sym (set p) ∙ e));
}

pub canon_noted : (own : List TyName) (old new : Graph) (images made more : Images) (place image : ℕ)
    → AreCanon own old.items made → Extends old new → CanonAt own old new images place image
    → IsSet made more place image → AreCanon own new.items more
canon_noted own old new images made more place image h e c set =
    canon_set own new.items made more place image (canon_later own old new made e h)
    (canon_from own old new e place image c.is) set

none_some : (q : ℕ) → None ≡ Some q → ⊥
none_some q h = cc

pub no_canon : (own : List TyName) (items : List Item) (made : Images) → ((p : ℕ) → image_in made p ≡ None)
    → AreCanon own items made
no_canon own items made h = record { each = λ p q e. absurd (none_some q (sym (h p) ∙ e)) }

-- ---- rows

sig_here : (own : List TyName) (x y z : Item) → IsSignature x → y ≡ x → IsCanon own y z
    → IsSignature z × (as_signature z ≡ canonical_signature (by_order own) (as_signature x))
sig_here own x y z h e c = here x z h (subst (λ w. IsCanon own w z) e c)
  where
    here : (x z : Item) → IsSignature x → IsCanon own x z
        → IsSignature z × (as_signature z ≡ canonical_signature (by_order own) (as_signature x))
    here (Item.SignatureItem s) z h c = (subst IsSignature (sym c) tt, ap as_signature c)
    here Item.Nowhere z h c = absurd h
    here (Item.TypeItem x) z h c = absurd h
    here (Item.ValueItem x) z h c = absurd h
    here (Item.EnvItem x) z h c = absurd h
    here (Item.FunctorItem x) z h c = absurd h
    here (Item.TopItem x) z h c = absurd h

fun_here : (own : List TyName) (x y z : Item) → IsFunctor x → y ≡ x → IsCanon own y z
    → IsFunctor z × (as_functor z ≡ canonical_functor (by_order own) (as_functor x))
fun_here own x y z h e c = here x z h (subst (λ w. IsCanon own w z) e c)
  where
    here : (x z : Item) → IsFunctor x → IsCanon own x z
        → IsFunctor z × (as_functor z ≡ canonical_functor (by_order own) (as_functor x))
    here (Item.FunctorItem s) z h c = (subst IsFunctor (sym c) tt, ap as_functor c)
    here Item.Nowhere z h c = absurd h
    here (Item.TypeItem x) z h c = absurd h
    here (Item.ValueItem x) z h c = absurd h
    here (Item.EnvItem x) z h c = absurd h
    here (Item.SignatureItem x) z h c = absurd h
    here (Item.TopItem x) z h c = absurd h

sigs_canon : (own : List TyName) (old new : Graph) (made : Images) (rows out : Table ℕ) → Extends old new
    → AreCanon own new.items made → AreMapped made rows out → AreAll IsSignature old.items rows
    → AreAll IsSignature new.items out
    × (map_rows (λ p. as_signature (at new.items p)) out
    ≡ each_row (canonical_signature (by_order own)) (map_rows (λ p. as_signature (at old.items p)) rows))
sigs_canon own old new made [] [] e c m h = (tt, refl)
sigs_canon own old new made [] (s ∷ ss) e c m h = absurd (cc)
sigs_canon own old new made (r ∷ rs) [] e c m h = absurd (cc)
sigs_canon own old new made (r ∷ rs) (s ∷ ss) e c m h =
    let here = sig_here own (at old.items r.1) (at new.items r.1) (at new.items s.1) h.0
    (still IsSignature (λ k. k) old new e r.1 h.0) (c.each r.1 s.1 (mapped_image made r s rs ss m)) in
    let rest = sigs_canon own old new made rs ss e c (mapped_rest made r s rs ss m) h.1 in (
      (here.0, rest.0),
      ap₂ (λ row rows. row ∷ rows) (ap₂ (λ name x. (name, x)) (sym (mapped_name made r s rs ss m)) here.1) rest.1,
    )

funs_canon : (own : List TyName) (old new : Graph) (made : Images) (rows out : Table ℕ) → Extends old new
    → AreCanon own new.items made → AreMapped made rows out → AreAll IsFunctor old.items rows
    → AreAll IsFunctor new.items out
    × (map_rows (λ p. as_functor (at new.items p)) out
    ≡ each_row (canonical_functor (by_order own)) (map_rows (λ p. as_functor (at old.items p)) rows))
funs_canon own old new made [] [] e c m h = (tt, refl)
funs_canon own old new made [] (s ∷ ss) e c m h = absurd (cc)
funs_canon own old new made (r ∷ rs) [] e c m h = absurd (cc)
funs_canon own old new made (r ∷ rs) (s ∷ ss) e c m h =
    let here = fun_here own (at old.items r.1) (at new.items r.1) (at new.items s.1) h.0
    (still IsFunctor (λ k. k) old new e r.1 h.0) (c.each r.1 s.1 (mapped_image made r s rs ss m)) in
    let rest = funs_canon own old new made rs ss e c (mapped_rest made r s rs ss m) h.1 in (
      (here.0, rest.0),
      ap₂ (λ row rows. row ∷ rows) (ap₂ (λ name x. (name, x)) (sym (mapped_name made r s rs ss m)) here.1) rest.1,
    )

pub rows_canon : {E : Type 0} (own : List TyName) (old new : Graph) (made : Images) (rows : Table ℕ)
    (r : Result (Table ℕ) E) → Extends old new → AreCanon own new.items made → IfOk r (AreMapped made rows)
    → IfOk r (CanonRows own old.items rows new.items)
rows_canon own old new made rows (Err f) e c m = tt
rows_canon own old new made rows (Ok out) e c m = record {
  signatures = sigs_canon own old new made rows out e c m;
  functors = funs_canon own old new made rows out e c m;
}
