-- Interfaces that stand in a graph stand there when it has more nodes, and when others are taken away.
use Rattle.std.proofs.Common.{◌≡◌, ℕ, ◌<◌, refl, sym, ap, subst, ◌∙◌, List, take, length, Some, None, Bool, true, false, cond, nat_eq}
use Rattle.std.specs.Prelude.{Option}
use Rattle.std.specs.Option.{option_copied}
use Rattle.std.specs.Borrow.{Bor}
use Rattle.std.specs.Cmp.Lexicographic.{same_text, bytes_decides}
use Rattle.std.proofs.lemmas.List.{get_or-take}
use Rattle.std.specs.Map.{lookup}
use Rattle.indexmap.specs.IndexMap.{IndexMap}
use Rattle.semantic_objects.specs.Environments.{Top}
use Rattle.sml_modules.specs.declared.id.TopId.{TopId}
use Rattle.sml_modules.specs.Items.{Item, at, as_top, IsTop}
use Rattle.sml_modules.specs.Graphs.{Graph, Keeps, HasTop, top_at}
use Rattle.sml_modules.specs.Adding.{Extends}
use Rattle.sml_modules.proofs.Keeping.{keeps}
use Rattle.sml_modules.proofs.Unfolding.{within}
use Rattle.realisation.specs.Names.{names_in_top, once}
use Rattle.interface_tops.specs.Tops.{interface_top}
use Rattle.import_reading.specs.declared.restored.RestoredInterface.{RestoredInterface}
use Rattle.import_reading.specs.declared.restored.RestoredInterfaces.{RestoredInterfaces}
use Rattle.import_reading.specs.Reading.{RestoresTop}
use Rattle.import_reading.specs.Restored.{restored_of, IsRestored, AreRestored, HasRestored, HasIfOne, ReadsInterface}
use lib.Pointwise.{pointwise}

-- ---- more nodes, and fewer

is_kept : (old new : Graph) (provider : List ℕ) (is : RestoredInterface) → Keeps old new
    → IsRestored old.items provider is → IsRestored new.items provider is
is_kept old new provider is k h = record {
  there = k.has_top is.top h.there;
  top = h.top ∙ ap (λ (z : Top). Some z) (sym (k.top is.top h.there));
  names = h.names ∙ ap (λ (z : Top). once (names_in_top z)) (sym (k.top is.top h.there));
}

pub are_kept : (old new : Graph) (restored : RestoredInterfaces) → Keeps old new → AreRestored old.items restored
    → AreRestored new.items restored
are_kept old new restored k h = record {
  each = λ provider is e. is_kept old new provider is k (h.each provider is e);
  low = h.low;
}

pub are_still : (old new : Graph) (restored : RestoredInterfaces) → Extends old new → AreRestored old.items restored
    → AreRestored new.items restored
are_still old new restored e h = are_kept old new restored (keeps old new e) h

is_cut : (items : List Item) (n : ℕ) (provider : List ℕ) (is : RestoredInterface) → is.top.place < n
    → IsRestored items provider is → IsRestored (take n items) provider is
is_cut items n provider is l h =
    let same : at items is.top.place ≡ at (take n items) is.top.place =
    sym (get_or-take n items is.top.place Item.Nowhere l) in record {
      there = subst IsTop same h.there;
      top = h.top ∙ ap (λ z. Some (as_top z)) same;
      names = h.names ∙ ap (λ z. once (names_in_top (as_top z))) same;
    }

-- all nodes behind those of the interfaces are taken away
pub are_cut : (items : List Item) (restored : RestoredInterfaces) → AreRestored items restored
    → AreRestored (take restored.nodes items) restored
are_cut items restored h = record {
  each = λ provider is e. is_cut items restored.nodes provider is (h.low provider is e) (h.each provider is e);
  low = h.low;
}

-- ---- one interface more

some_same : (x y : RestoredInterface) → Some x ≡ Some y → x ≡ y
some_same x y e = cc

same_is_true : (a b : List ℕ) → a ≡ b → pointwise nat_eq a b ≡ true
same_is_true a b e = (bytes_decides a b).1 e

-- what holds of what is put under a name, and of what was there, holds of what is there
at_either : (P : List ℕ → RestoredInterface → Type 0) (before : Option RestoredInterface) (provider name : List ℕ)
    (made is : RestoredInterface) (b : Bool) → pointwise nat_eq provider name ≡ b → P provider made
    → (before ≡ Some is → P name is) → cond b (Some made) before ≡ Some is → P name is
at_either P before provider name made is true e p h k =
    subst (P name) (some_same made is k) (subst (λ z. P z made) (same_text provider name (sym e)) p)
at_either P before provider name made is false e p h k = h k

pub are_noted : (items : List Item) (provider : List ℕ) (made : RestoredInterface)
    (old new : RestoredInterfaces) → AreRestored items old → IsRestored items provider made
    → ((name : List ℕ) → restored_of new.by_provider name
    ≡ cond (pointwise nat_eq provider name) (Some made) (restored_of old.by_provider name))
    → new.nodes ≡ length items → AreRestored items new
are_noted items provider made old new h one put n = record {
  each = each;
  low = λ name is e. subst (λ z. is.top.place < z) (sym n) (within IsTop (λ k. k) items is.top.place (each name is e).there);
}
  where
    each : (name : List ℕ) (is : RestoredInterface) → restored_of new.by_provider name ≡ Some is
        → IsRestored items name is
    each name is e =
        at_either (IsRestored items) (restored_of old.by_provider name) provider name made is
        (pointwise nat_eq provider name) refl one (h.each name is) (sym (put name) ∙ e)

-- nothing was put there
pub are_unchanged : (items : List Item) (old new : RestoredInterfaces) → AreRestored items old
    → new.by_provider.entries ≡ old.by_provider.entries → new.nodes ≡ old.nodes → AreRestored items new
are_unchanged items old new h e n = record {
  each = λ name is k. h.each name is (ap (lookup (pointwise nat_eq name)) (sym e) ∙ k);
  low = λ name is k. subst (λ z. is.top.place < z) (sym n) (h.low name is (ap (lookup (pointwise nat_eq name)) (sym e) ∙ k));
}

-- ---- what the calls answer

pub none_of : (items : List Item) (provider bytes : List ℕ) (found : Option RestoredInterface)
    → ReadsInterface items provider bytes found → ((is : RestoredInterface) → found ≡ Some is → ⊥)
    → interface_top provider bytes ≡ None
none_of items provider bytes None h never = h
none_of items provider bytes (Some is) h never = absurd (never is refl)

pub one_of : (items : List Item) (provider bytes : List ℕ) (found : Option RestoredInterface) (is : RestoredInterface)
    → ReadsInterface items provider bytes found → found ≡ Some is
    → (is.interface ≡ bytes) × IsRestored items provider is
one_of items provider bytes found is h e = subst (ReadsInterface items provider bytes) e h

-- it is there
same_found : (x y : RestoredInterface) (table : Option RestoredInterface) → table ≡ Some x → table ≡ Some y → x ≡ y
same_found x y table e f = some_same x y (sym e ∙ f)

pub found_restored : (items : List Item) (restored : RestoredInterfaces) (provider bytes : List ℕ) (b : Bool)
    (is : RestoredInterface) → AreRestored items restored → HasIfOne restored.by_provider provider bytes b → b ≡ true
    → restored_of restored.by_provider provider ≡ Some is
    → (is.interface ≡ bytes) × IsRestored items provider is
found_restored items restored provider bytes true is h has e f = (
  ap (λ (z : RestoredInterface). z.interface) (same_found is has.found (restored_of restored.by_provider provider) f has.is)
      ∙ has.same,
  h.each provider is f,
)
found_restored items restored provider bytes false is h has e f = absurd (cc)

-- its top, as what the bytes are the interface of
pub top_of_restored : (new : Graph) (provider bytes : List ℕ) (is : RestoredInterface)
    → (is.interface ≡ bytes) × IsRestored new.items provider is → RestoresTop provider bytes new (Some is.top)
top_of_restored new provider bytes is h = (h.1.there, ap (interface_top provider) (sym h.0) ∙ h.1.top)

pub not_one : {S : Type 0} (table : IndexMap (List ℕ) RestoredInterface S) (provider bytes : List ℕ) (b : Bool)
    → HasIfOne table provider bytes b → b ≡ false → interface_top provider bytes ≡ None
not_one table provider bytes false h e = h
not_one table provider bytes true h e = absurd (cc)

pub never_missing : {S : Type 0} (table : IndexMap (List ℕ) RestoredInterface S) (provider bytes : List ℕ) (b : Bool)
    → HasIfOne table provider bytes b → b ≡ true
    → ((is : RestoredInterface) → restored_of table provider ≡ Some is → ⊥) → ⊥
never_missing table provider bytes true h e never = never h.found h.is
never_missing table provider bytes false h e never = absurd (cc)

pub has_already : {S : Type 0} (table : IndexMap (List ℕ) RestoredInterface S) (provider bytes : List ℕ) (b : Bool)
    → HasRestored table provider bytes b → b ≡ true → HasIfOne table provider bytes true
has_already table provider bytes true h e = h
has_already table provider bytes false h e = absurd (cc)

pub same_bytes : {S : Type 0} (table : IndexMap (List ℕ) RestoredInterface S) (provider bytes mine : List ℕ)
    (is : RestoredInterface) (b : Bool) → restored_of table provider ≡ Some is → mine ≡ is.interface
    → b ≡ pointwise nat_eq mine bytes → HasRestored table provider bytes b
same_bytes table provider bytes mine is true e m h = record {
  found = is;
  is = e;
  same = sym m ∙ same_text mine bytes h;
}
same_bytes table provider bytes mine is false e m h = tt

-- an interface that was read into the graph
pub was_read : (new : Graph) (provider bytes : List ℕ) (found : Option TopId) (id : TopId) (read : Top)
    (made : RestoredInterface) → RestoresTop provider bytes new found → found ≡ Some id → top_at new id ≡ read
    → made.interface ≡ bytes → made.top ≡ id → made.names ≡ once (names_in_top read)
    → ReadsInterface new.items provider bytes (Some made)
was_read new provider bytes found id read made h f r b t n =
    let is : HasTop new id × (interface_top provider bytes ≡ Some (top_at new id)) =
    subst (RestoresTop provider bytes new) f h in (
      b,
      record {
        there = subst (HasTop new) (sym t) is.0;
        top = ap (interface_top provider) b ∙ is.1 ∙ ap (λ z. Some (top_at new z)) (sym t);
        names = n ∙ ap (λ (z : Top). once (names_in_top z)) (sym r ∙ ap (top_at new) (sym t));
      },
    )

-- it is what the table has under its provider's name
pub has_noted : {S : Type 0} (table : IndexMap (List ℕ) RestoredInterface S) (before : Option RestoredInterface)
    (provider name bytes : List ℕ) (made : RestoredInterface) → provider ≡ name → made.interface ≡ bytes
    → restored_of table name ≡ cond (pointwise nat_eq provider name) (Some made) before → HasIfOne table name bytes true
has_noted table before provider name bytes made e b h = record {
  found = made;
  is = h ∙ ap (λ c. cond c (Some made) before) (same_is_true provider name e);
  same = b;
}

-- what is lent is nothing, so nothing is there
pub none_there : (found : Option (Bor RestoredInterface)) → ((lent : Bor RestoredInterface) → found ≡ Some lent → ⊥)
    → (is : RestoredInterface) → option_copied found ≡ Some is → ⊥
none_there None never is e = absurd (cc)
none_there (Some lent) never is e = never lent refl
