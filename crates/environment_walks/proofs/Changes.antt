-- What becomes of nodes and of tables of places.
use Rattle.std.proofs.Common.{◌≡◌, ℕ, List, [], ◌∷◌, refl, sym, ap, ap₂, ◌∙◌, subst, Option, Some, None, cond, nat_eq}
use Rattle.std.proofs.lemmas.Bool.{eqb-true}
use Rattle.std.specs.Prelude.{Result, Ok, Err, IfOk}
use Rattle.unification.proofs.Walking.{either_way}
use Rattle.semantic_objects.specs.declared.entry.TypeStr.{TypeStr}
use Rattle.semantic_objects.specs.declared.entry.ValueEntry.{ValueEntry}
use Rattle.semantic_objects.specs.Tables.{Table}
use Rattle.semantic_objects.specs.Environments.{Env, Structures, structures_of}
use Rattle.env_parts.specs.declared.tables.EnvTables.{EnvTables}
use Rattle.sml_modules.specs.declared.id.EnvId.{EnvId}
use Rattle.sml_modules.specs.declared.node.Node.{Node}
use Rattle.sml_modules.specs.declared.node.Node.TheVariants as node
use Rattle.sml_modules.specs.declared.node.KeptType.{KeptType}
use Rattle.sml_modules.specs.declared.node.KeptValue.{KeptValue}
use Rattle.sml_modules.specs.Items.{Item, at, as_type, as_value, as_env, IsType, IsValue, IsEnv, map_rows, item_facts}
use Rattle.sml_modules.specs.Nodes.{node_item, env_of_tables, AreAll, AreEnvTables}
use Rattle.sml_modules.specs.Graphs.{Graph, env_at, HasEnv, GivesEnv}
use Rattle.sml_modules.specs.Adding.{Extends, Adds, ReadsEnv}
use Rattle.sml_modules.proofs.Unfolding.{at_more}
use Rattle.sml_modules.proofs.Keeping.{keeps}
use Rattle.realisation.specs.Environments.{Change, changed_type, changed_value, changed, changed_structures, each_row}
use Rattle.environment_walks.specs.declared.places.Images.{Images}
use Rattle.environment_walks.proofs.Mapping.{mapped_name, mapped_image, mapped_rest}
use Rattle.environment_walks.specs.Changing.{image_in, IsChanged, AreChanged, AreMapped, MakesOf, MakesNode, MakesTables, IsChangedEnv}

-- ---- items

type_changed : (by : Change) (x y : Item) → IsType x → IsChanged by x y
    → IsType y × (as_type y ≡ changed_type by (as_type x))
type_changed by (Item.TypeItem x) y t h = (subst IsType (sym h) tt, ap as_type h)
type_changed by Item.Nowhere y t h = absurd h
type_changed by (Item.ValueItem x) y t h = absurd t
type_changed by (Item.EnvItem x) y t h = absurd t
type_changed by (Item.SignatureItem x) y t h = absurd h
type_changed by (Item.FunctorItem x) y t h = absurd h
type_changed by (Item.TopItem x) y t h = absurd h

value_changed : (by : Change) (x y : Item) → IsValue x → IsChanged by x y
    → IsValue y × (as_value y ≡ changed_value by (as_value x))
value_changed by (Item.ValueItem x) y t h = (subst IsValue (sym h) tt, ap as_value h)
value_changed by Item.Nowhere y t h = absurd h
value_changed by (Item.TypeItem x) y t h = absurd t
value_changed by (Item.EnvItem x) y t h = absurd t
value_changed by (Item.SignatureItem x) y t h = absurd h
value_changed by (Item.FunctorItem x) y t h = absurd h
value_changed by (Item.TopItem x) y t h = absurd h

env_changed : (by : Change) (x y : Item) → IsEnv x → IsChanged by x y → IsEnv y × (as_env y ≡ changed by (as_env x))
env_changed by (Item.EnvItem x) y t h = (subst IsEnv (sym h) tt, ap as_env h)
env_changed by Item.Nowhere y t h = absurd h
env_changed by (Item.TypeItem x) y t h = absurd t
env_changed by (Item.ValueItem x) y t h = absurd t
env_changed by (Item.SignatureItem x) y t h = absurd h
env_changed by (Item.FunctorItem x) y t h = absurd h
env_changed by (Item.TopItem x) y t h = absurd h

some_env : (x : Item) → IsEnv x → x ≡ Item.EnvItem (as_env x)
some_env (Item.EnvItem e) h = refl
some_env Item.Nowhere h = absurd h
some_env (Item.TypeItem x) h = absurd h
some_env (Item.ValueItem x) h = absurd h
some_env (Item.SignatureItem x) h = absurd h
some_env (Item.FunctorItem x) h = absurd h
some_env (Item.TopItem x) h = absurd h

-- ---- more nodes

pub images_later : (by : Change) (old new : Graph) (images : Images) → Extends old new
    → AreChanged by old.items images → AreChanged by new.items images
images_later by old new images e h = record {
  each = λ p q i. later (at old.items p) (at old.items q) (at new.items p) (at new.items q) (h.each p q i)
      (ap (λ z. at z p) e.items ∙ at_more (λ x. IsChanged by x (at old.items q)) (λ k. k) old.items e.more p (h.each p q i))
      (still by old new e (at old.items p) q (h.each p q i));
}
  where
    later : (x y z w : Item) → IsChanged by x y → z ≡ x → w ≡ y → IsChanged by z w
    later x y z w h e f = subst (λ u. IsChanged by u w) (sym e) (subst (IsChanged by x) (sym f) h)

    still : (by : Change) (old new : Graph) → Extends old new → (x : Item) (q : ℕ) → IsChanged by x (at old.items q)
        → at new.items q ≡ at old.items q
    still by old new e (Item.TypeItem x) q h = ap (λ z. at z q) e.items
        ∙ at_more IsType (λ k. k) old.items e.more q (subst IsType (sym h) tt)
    still by old new e (Item.ValueItem x) q h = ap (λ z. at z q) e.items
        ∙ at_more IsValue (λ k. k) old.items e.more q (subst IsValue (sym h) tt)
    still by old new e (Item.EnvItem x) q h = ap (λ z. at z q) e.items
        ∙ at_more IsEnv (λ k. k) old.items e.more q (subst IsEnv (sym h) tt)
    still by old new e Item.Nowhere q h = absurd h
    still by old new e (Item.SignatureItem x) q h = absurd h
    still by old new e (Item.FunctorItem x) q h = absurd h
    still by old new e (Item.TopItem x) q h = absurd h

some_is : {A : Type 0} (x y : A) → Some x ≡ Some y → x ≡ y
some_is x y h = cc

abbrev pub IsSet : Images → Images → ℕ → ℕ → Type 0
IsSet old new place image = (p : ℕ) → image_in new p ≡ cond (nat_eq place p) (Some image) (image_in old p)

-- one image more
pub image_set : (by : Change) (items : List Item) (old new : Images) (place image : ℕ) → AreChanged by items old
    → IsChanged by (at items place) (at items image) → IsSet old new place image → AreChanged by items new
image_set by items old new place image h k set = record {
  each = λ p q e. either_way (nat_eq place p)
      (λ s. let i : Some image ≡ Some q = sym (ap (λ b. cond b (Some image) (image_in old p)) s) ∙ sym (set p) ∙ e in
      subst (λ z. IsChanged by (at items z) (at items q)) (eqb-true place p s)
      (subst (λ z. IsChanged by (at items place) (at items z)) (some_is image q i) k))
      (λ s. h.each p q (sym (ap (λ b. cond b (Some image) (image_in old p)) s) ∙ sym (set p) ∙ e));
}

-- the image of a place in the graph with a node more
pub image_added : (by : Change) (old new : Graph) (item : Item) (place image : ℕ) → Adds old new item image
    → IsChanged by (at old.items place) item → IsChanged by (at new.items place) (at new.items image)
image_added by old new item place image a h =
    subst (IsChanged by (at new.items place)) (sym a.stands)
    (subst (λ x. IsChanged by x item) (sym (ap (λ z. at z place) a.extends.items
    ∙ at_more (λ x. IsChanged by x item) (λ k. k) old.items a.extends.more place h)) h)

pub added_all : (by : Change) (old new : Graph) (images more : Images) (item : Item) (place image : ℕ)
    → Adds old new item image → AreChanged by old.items images → IsChanged by (at old.items place) item
    → IsSet images more place image → AreChanged by new.items more
added_all by old new images more item place image a h k set =
    image_set by new.items images more place image (images_later by old new images a.extends h)
    (image_added by old new item place image a k) set

-- ---- entries

type_stays : (by : Change) (x : TypeStr) → changed_type by x ≡ x → IsChanged by (Item.TypeItem x) (Item.TypeItem x)
type_stays by x h = ap Item.TypeItem (sym h)

value_stays : (by : Change) (x : ValueEntry) → changed_value by x ≡ x
    → IsChanged by (Item.ValueItem x) (Item.ValueItem x)
value_stays by x h = ap Item.ValueItem (sym h)

pub makes_type : (by : Change) (x y : TypeStr) (kept : KeptType) → kept.entry ≡ y
    → kept.facts ≡ item_facts (Item.TypeItem y) → y ≡ changed_type by x
    → MakesOf by (Item.TypeItem x) (Some (node.TypeStr kept))
makes_type by x y kept e f h items =
    (f ∙ ap (λ z. item_facts (Item.TypeItem z)) (sym e), ap Item.TypeItem (e ∙ h))

pub makes_value : (by : Change) (x y : ValueEntry) (kept : KeptValue) → kept.entry ≡ y
    → kept.facts ≡ item_facts (Item.ValueItem y) → y ≡ changed_value by x
    → MakesOf by (Item.ValueItem x) (Some (node.Value kept))
makes_value by x y kept e f h items =
    (f ∙ ap (λ z. item_facts (Item.ValueItem z)) (sym e), ap Item.ValueItem (e ∙ h))

pub makes_no_type : (by : Change) (x : TypeStr) → changed_type by x ≡ x → MakesOf by (Item.TypeItem x) None
makes_no_type by x h = type_stays by x h

pub makes_no_value : (by : Change) (x : ValueEntry) → changed_value by x ≡ x → MakesOf by (Item.ValueItem x) None
makes_no_value by x h = value_stays by x h

-- of the item at a place
made_at : (by : Change) (items : List Item) (place : ℕ) (item : Item) (o : Option Node) → at items place ≡ item
    → MakesOf by item o → MakesNode by items place o
made_at by items place item None e h =
    subst (λ x. IsChanged by x x) (sym e) h
made_at by items place item (Some n) e h =
    ((h items).0, subst (λ x. IsChanged by x (node_item items n)) (sym e) (h items).1)

pub made_ok : {E : Type 0} (by : Change) (items : List Item) (place : ℕ) (item : Item) (r : Result (Option Node) E)
    → at items place ≡ item → IfOk r (MakesOf by item) → IfOk r (MakesNode by items place)
made_ok by items place item (Ok o) e h = made_at by items place item o e h
made_ok by items place item (Err fault) e h = tt

-- ---- tables

types_mapped : (by : Change) (items : List Item) (images : Images) (rows made : Table ℕ) → AreChanged by items images
    → AreMapped images rows made → AreAll IsType items rows
    → AreAll IsType items made
    × (map_rows (λ p. as_type (at items p)) made ≡ each_row (changed_type by) (map_rows (λ p. as_type (at items p)) rows))
types_mapped by items images [] [] h m a = (tt, refl)
types_mapped by items images [] (s ∷ ss) h m a = absurd (cc)
types_mapped by items images (r ∷ rs) [] h m a = absurd (cc)
types_mapped by items images (r ∷ rs) (s ∷ ss) h m a =
    let k : r.0 ≡ s.0 = mapped_name images r s rs ss m in
    let l : image_in images r.1 ≡ Some s.1 = mapped_image images r s rs ss m in
    let n : AreMapped images rs ss = mapped_rest images r s rs ss m in
    let here = type_changed by (at items r.1) (at items s.1) a.0 (h.each r.1 s.1 l) in
    let rest = types_mapped by items images rs ss h n a.1 in
    ((here.0, rest.0), ap₂ (λ row rows. row ∷ rows) (ap₂ (λ name x. (name, x)) (sym k) here.1) rest.1)

values_mapped : (by : Change) (items : List Item) (images : Images) (rows made : Table ℕ) → AreChanged by items images
    → AreMapped images rows made → AreAll IsValue items rows
    → AreAll IsValue items made
    × (map_rows (λ p. as_value (at items p)) made ≡ each_row (changed_value by) (map_rows (λ p. as_value (at items p)) rows))
values_mapped by items images [] [] h m a = (tt, refl)
values_mapped by items images [] (s ∷ ss) h m a = absurd (cc)
values_mapped by items images (r ∷ rs) [] h m a = absurd (cc)
values_mapped by items images (r ∷ rs) (s ∷ ss) h m a =
    let k : r.0 ≡ s.0 = mapped_name images r s rs ss m in
    let l : image_in images r.1 ≡ Some s.1 = mapped_image images r s rs ss m in
    let n : AreMapped images rs ss = mapped_rest images r s rs ss m in
    let here = value_changed by (at items r.1) (at items s.1) a.0 (h.each r.1 s.1 l) in
    let rest = values_mapped by items images rs ss h n a.1 in
    ((here.0, rest.0), ap₂ (λ row rows. row ∷ rows) (ap₂ (λ name x. (name, x)) (sym k) here.1) rest.1)

structures_mapped : (by : Change) (items : List Item) (images : Images) (rows made : Table ℕ)
    → AreChanged by items images → AreMapped images rows made → AreAll IsEnv items rows
    → AreAll IsEnv items made
    × (structures_of (map_rows (λ p. as_env (at items p)) made)
    ≡ changed_structures by (structures_of (map_rows (λ p. as_env (at items p)) rows)))
structures_mapped by items images [] [] h m a = (tt, refl)
structures_mapped by items images [] (s ∷ ss) h m a = absurd (cc)
structures_mapped by items images (r ∷ rs) [] h m a = absurd (cc)
structures_mapped by items images (r ∷ rs) (s ∷ ss) h m a =
    let k : r.0 ≡ s.0 = mapped_name images r s rs ss m in
    let l : image_in images r.1 ≡ Some s.1 = mapped_image images r s rs ss m in
    let n : AreMapped images rs ss = mapped_rest images r s rs ss m in
    let here = env_changed by (at items r.1) (at items s.1) a.0 (h.each r.1 s.1 l) in
    let rest = structures_mapped by items images rs ss h n a.1 in (
      (here.0, rest.0),
      struct_cons s.0 r.0 (as_env (at items s.1)) (changed by (as_env (at items r.1)))
          (structures_of (map_rows (λ p. as_env (at items p)) ss))
          (changed_structures by (structures_of (map_rows (λ p. as_env (at items p)) rs))) (sym k) here.1 rest.1,
    )
  where
    struct_cons : (m n : List ℕ) (d e : Env) (xs ys : Structures) → m ≡ n → d ≡ e → xs ≡ ys
        → Structures.Cons m d xs ≡ Structures.Cons n e ys
    struct_cons m n d e xs ys f g i = cc

env_same : (ss us : Structures) (ts xs : Table TypeStr) (vs ys : Table ValueEntry) → ss ≡ us → ts ≡ xs → vs ≡ ys
    → Env.MakeEnv ss ts vs ≡ Env.MakeEnv us xs ys
env_same ss us ts xs vs ys h k l = cc

pub tables_mapped : (by : Change) (items : List Item) (images : Images) (t made : EnvTables) → AreChanged by items images
    → AreEnvTables items t → AreMapped images t.structures made.structures → AreMapped images t.types made.types
    → AreMapped images t.values made.values
    → AreEnvTables items made × (env_of_tables items made ≡ changed by (env_of_tables items t))
tables_mapped by items images t made h a ms mt mv =
    let s = structures_mapped by items images t.structures made.structures h ms a.structures in
    let u = types_mapped by items images t.types made.types h mt a.types in
    let v = values_mapped by items images t.values made.values h mv a.values in (
      record { structures = s.0; types = u.0; values = v.0 },
      env_same (structures_of (map_rows (λ p. as_env (at items p)) made.structures))
          (changed_structures by (structures_of (map_rows (λ p. as_env (at items p)) t.structures)))
          (map_rows (λ p. as_type (at items p)) made.types)
          (each_row (changed_type by) (map_rows (λ p. as_type (at items p)) t.types))
          (map_rows (λ p. as_value (at items p)) made.values)
          (each_row (changed_value by) (map_rows (λ p. as_value (at items p)) t.values)) s.1 u.1 v.1,
    )

pub env_is_changed : (by : Change) (items : List Item) (place : ℕ) (t made : EnvTables) → IsEnv (at items place)
    → ReadsEnv items (as_env (at items place)) t → env_of_tables items made ≡ changed by (env_of_tables items t)
    → IsChanged by (at items place) (Item.EnvItem (env_of_tables items made))
env_is_changed by items place t made h r e =
    subst (λ x. IsChanged by x (Item.EnvItem (env_of_tables items made))) (sym (some_env (at items place) h))
    (ap Item.EnvItem (e ∙ sym (ap (changed by) r.is)))

pub env_stays : (by : Change) (items : List Item) (place : ℕ) (t : EnvTables) → IsEnv (at items place)
    → ReadsEnv items (as_env (at items place)) t → env_of_tables items t ≡ changed by (env_of_tables items t)
    → IsChanged by (at items place) (at items place)
env_stays by items place t h r e =
    subst (λ x. IsChanged by (at items place) x)
    (ap Item.EnvItem (sym r.is) ∙ sym (some_env (at items place) h)) (env_is_changed by items place t t h r e)

-- ---- the answer

pub env_given : (by : Change) (old new : Graph) (images : Images) (id made : EnvId) → HasEnv old id → Extends old new
    → AreChanged by new.items images → image_in images id.place ≡ Some made.place
    → GivesEnv old new (changed by (env_at old id)) made
env_given by old new images id made h e c i =
    let same : at new.items id.place ≡ at old.items id.place =
    ap (λ z. at z id.place) e.items ∙ at_more IsEnv (λ k. k) old.items e.more id.place h in
    let there : IsEnv (at new.items id.place) = subst IsEnv (sym same) h in
    let k = env_changed by (at new.items id.place) (at new.items made.place) there (c.each id.place made.place i) in
    record {
      there = k.0;
      stands = k.1 ∙ ap (λ x. changed by (as_env x)) same;
      keeps = keeps old new e;
      home = e.home;
      made = e.made;
    }

-- ---- what was made

pub made_some : (by : Change) (items : List Item) (place : ℕ) (o : Option Node) (n : Node)
    → MakesNode by items place o → o ≡ Some n → IsChanged by (at items place) (node_item items n)
made_some by items place o n h e = (subst (MakesNode by items place) e h).1

pub tables_some : (by : Change) (items : List Item) (place : ℕ) (o : Option EnvTables) (t : EnvTables)
    → MakesTables by items place o → o ≡ Some t
    → IsChanged by (at items place) (Item.EnvItem (env_of_tables items t))
tables_some by items place o t h e = (subst (MakesTables by items place) e h).1

none_some : (q : ℕ) (o : Option ℕ) → o ≡ None → o ≡ Some q → ⊥
none_some q o h e = cc

pub no_images : (by : Change) (items : List Item) (images : Images) → ((p : ℕ) → image_in images p ≡ None)
    → AreChanged by items images
no_images by items images h =
    record { each = λ p q e. absurd (none_some q (image_in images p) (h p) e) }

-- the environment that was changed, and the id for it
pub env_made : (by : Change) (old new : Graph) (images : Images) (id made : EnvId) → HasEnv old id → Extends old new
    → AreChanged by new.items images → image_in images id.place ≡ Some made.place → IsChangedEnv by old id new made
env_made by old new images id made h e c i =
    let given : GivesEnv old new (changed by (env_at old id)) made = env_given by old new images id made h e c i in
    record { there = given.there; stands = given.stands }

pub env_kept : (by : Change) (old new : Graph) (id made : EnvId) → Extends old new → IsChangedEnv by old id new made
    → GivesEnv old new (changed by (env_at old id)) made
env_kept by old new id made e h = record {
  there = h.there;
  stands = h.stands;
  keeps = keeps old new e;
  home = e.home;
  made = e.made;
}

pub env_kept_ok : {E : Type 0} (by : Change) (old new : Graph) (id : EnvId) (r : Result EnvId E) → Extends old new
    → IfOk r (IsChangedEnv by old id new) → IfOk r (GivesEnv old new (changed by (env_at old id)))
env_kept_ok by old new id (Ok made) e h = env_kept by old new id made e h
env_kept_ok by old new id (Err fault) e h = tt
