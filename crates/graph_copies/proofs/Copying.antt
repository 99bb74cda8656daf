-- Nodes that are copied, and the graph that they are added to.
use Rattle.std.proofs.Common.{◌≡◌, ℕ, List, [], ◌∷◌, ◌++◌, refl, sym, ap, ap₂, ◌∙◌, subst, Some, None, cond, nat_eq}
use Rattle.std.specs.Prelude.{Result, Ok, Err, OnOk}
use Rattle.std.proofs.lemmas.Bool.{eqb-true}
use Rattle.unification.proofs.Walking.{either_way}
use Rattle.semantic_objects.specs.declared.name.TyName.{TyName}
use Rattle.semantic_objects.specs.declared.entry.TypeStr.{TypeStr}
use Rattle.semantic_objects.specs.declared.entry.ValueEntry.{ValueEntry}
use Rattle.semantic_objects.specs.Tables.{Table}
use Rattle.semantic_objects.specs.Environments.{Env, Structures, structures_of, Signature, Functor, Top}
use Rattle.env_parts.specs.declared.tables.EnvTables.{EnvTables}
use Rattle.env_parts.specs.declared.tables.TopTables.{TopTables}
use Rattle.sml_modules.specs.declared.id.TopId.{TopId}
use Rattle.sml_modules.specs.declared.node.Node.{Node}
use Rattle.sml_modules.specs.declared.node.Node.TheVariants as node
use Rattle.sml_modules.specs.declared.node.EnvNode.{EnvNode}
use Rattle.sml_modules.specs.declared.node.SigNode.{SigNode}
use Rattle.sml_modules.specs.declared.node.FunNode.{FunNode}
use Rattle.sml_modules.specs.declared.node.KeptType.{KeptType}
use Rattle.sml_modules.specs.declared.node.KeptValue.{KeptValue}
use Rattle.sml_modules.specs.Items.{Item, at, as_type, as_value, as_env, as_signature, as_functor, as_top, IsType, IsValue, IsEnv, IsSignature, IsFunctor, IsTop, map_rows, item_facts}
use Rattle.sml_modules.specs.Nodes.{node_item, IsNodeAfter, env_of_tables, top_of_tables, signature_of_node, functor_of_node, AreAll, AreEnvTables, AreTopTables}
use Rattle.sml_modules.specs.Graphs.{Graph, top_at, HasTop, GivesTop}
use Rattle.sml_modules.specs.Adding.{Extends, Adds}
use Rattle.sml_modules.proofs.Unfolding.{at_more}
use Rattle.sml_modules.proofs.Keeping.{keeps}
use Rattle.environment_walks.specs.declared.places.Images.{Images}
use Rattle.environment_walks.specs.Changing.{image_in, AreMapped}
use Rattle.environment_walks.proofs.Mapping.{mapped_name, mapped_image, mapped_rest}
use Rattle.graph_copies.specs.Copied.{IsThere, AreCopied, IsCopy, CopiesOf}

pub on_ok : {E P Q : Type 0} (r : Result (Unit {0}) E) → OnOk r P → (P → Q) → OnOk r Q
on_ok (Ok x) h f = f h
on_ok (Err e) h f = tt

-- ---- parts

-- what stands at an image is of the kind that stands at its place
same_kind : (Is : Item → Type 0) (items copies : List Item) (images : Images) (p q : ℕ)
    → AreCopied items copies images → image_in images p ≡ Some q → Is (at items p) → Is (at copies q)
same_kind Is items copies images p q c e h = subst Is (sym (c.same p q e)) h

pub all_copied : (Is : Item → Type 0) (items copies : List Item) (images : Images) (rows made : Table ℕ)
    → AreCopied items copies images → AreMapped images rows made → AreAll Is items rows → AreAll Is copies made
all_copied Is items copies images [] [] c m a = tt
all_copied Is items copies images [] (s ∷ ss) c m a = absurd (cc)
all_copied Is items copies images (r ∷ rs) [] c m a = absurd (cc)
all_copied Is items copies images (r ∷ rs) (s ∷ ss) c m a = (
  same_kind Is items copies images r.1 s.1 c (mapped_image images r s rs ss m) a.0,
  all_copied Is items copies images rs ss c (mapped_rest images r s rs ss m) a.1,
)

pub rows_copied : {A : Type 0} (f : Item → A) (items copies : List Item) (images : Images) (rows made : Table ℕ)
    → AreCopied items copies images → AreMapped images rows made
    → map_rows (λ p. f (at copies p)) made ≡ map_rows (λ p. f (at items p)) rows
rows_copied f items copies images [] [] c m = refl
rows_copied f items copies images [] (s ∷ ss) c m = absurd (cc)
rows_copied f items copies images (r ∷ rs) [] c m = absurd (cc)
rows_copied f items copies images (r ∷ rs) (s ∷ ss) c m =
    ap₂ (λ row rows. row ∷ rows)
    (ap₂ (λ name x. (name, f x)) (sym (mapped_name images r s rs ss m))
    (c.same r.1 s.1 (mapped_image images r s rs ss m)))
    (rows_copied f items copies images rs ss c (mapped_rest images r s rs ss m))

-- ---- nodes

pub type_copied : (items : List Item) (images : Images) (kept made : KeptType)
    → kept.facts ≡ item_facts (Item.TypeItem kept.entry) → made.entry ≡ kept.entry → made.facts ≡ kept.facts
    → CopiesOf items images (Item.TypeItem kept.entry) (node.TypeStr made)
type_copied items images kept made f e g copies c = record {
  node = g ∙ f ∙ ap (λ x. item_facts (Item.TypeItem x)) (sym e);
  is = ap Item.TypeItem e;
  there = tt;
}

pub value_copied : (items : List Item) (images : Images) (kept made : KeptValue)
    → kept.facts ≡ item_facts (Item.ValueItem kept.entry) → made.entry ≡ kept.entry → made.facts ≡ kept.facts
    → CopiesOf items images (Item.ValueItem kept.entry) (node.Value made)
value_copied items images kept made f e g copies c = record {
  node = g ∙ f ∙ ap (λ x. item_facts (Item.ValueItem x)) (sym e);
  is = ap Item.ValueItem e;
  there = tt;
}

env_same : (ss us : Structures) (ts xs : Table TypeStr) (vs ys : Table ValueEntry) → ss ≡ us → ts ≡ xs → vs ≡ ys
    → Env.MakeEnv ss ts vs ≡ Env.MakeEnv us xs ys
env_same ss us ts xs vs ys h k l = cc

pub env_copied : (items : List Item) (images : Images) (kept : EnvNode) (made : EnvTables)
    → AreEnvTables items kept.tables
    → kept.facts ≡ item_facts (Item.EnvItem (env_of_tables items kept.tables))
    → AreMapped images kept.tables.structures made.structures → AreMapped images kept.tables.types made.types
    → AreMapped images kept.tables.values made.values
    → CopiesOf items images (Item.EnvItem (env_of_tables items kept.tables))
    (node.Env (record { tables = made; facts = kept.facts }))
env_copied items images kept made a f s t v copies c =
    let same : env_of_tables copies made ≡ env_of_tables items kept.tables =
    env_same (structures_of (map_rows (λ p. as_env (at copies p)) made.structures))
    (structures_of (map_rows (λ p. as_env (at items p)) kept.tables.structures))
    (map_rows (λ p. as_type (at copies p)) made.types) (map_rows (λ p. as_type (at items p)) kept.tables.types)
    (map_rows (λ p. as_value (at copies p)) made.values) (map_rows (λ p. as_value (at items p)) kept.tables.values)
    (ap structures_of (rows_copied as_env items copies images kept.tables.structures made.structures c s))
    (rows_copied as_type items copies images kept.tables.types made.types c t)
    (rows_copied as_value items copies images kept.tables.values made.values c v) in
    record {
      node = (
        record {
          structures = all_copied IsEnv items copies images kept.tables.structures made.structures c s a.structures;
          types = all_copied IsType items copies images kept.tables.types made.types c t a.types;
          values = all_copied IsValue items copies images kept.tables.values made.values c v a.values;
        },
        f ∙ ap (λ x. item_facts (Item.EnvItem x)) (sym same),
      );
      is = ap Item.EnvItem same;
      there = tt;
    }

abbrev sig_of : List TyName → Env → Signature
sig_of bound env = record { bound = bound; env = env }

pub signature_copied : (items : List Item) (images : Images) (sig : SigNode) (bound : List TyName) (env : ℕ)
    → IsEnv (at items sig.env) → bound ≡ sig.bound → image_in images sig.env ≡ Some env
    → CopiesOf items images (Item.SignatureItem (signature_of_node items sig))
    (node.Signature (record { bound = bound; env = env }))
signature_copied items images sig bound env h b e copies c = record {
  node = same_kind IsEnv items copies images sig.env env c e h;
  is = ap Item.SignatureItem (ap₂ sig_of b (ap as_env (c.same sig.env env e)));
  there = tt;
}

abbrev fun_of : List TyName → Env → List TyName → Env → Functor
fun_of bound param further result = record { bound = bound; param = param; further = further; result = result }

pub functor_copied : (items : List Item) (images : Images) (fun : FunNode) (bound further : List TyName)
    (param body : ℕ) → IsEnv (at items fun.param) → IsEnv (at items fun.result) → bound ≡ fun.bound
    → further ≡ fun.further → image_in images fun.param ≡ Some param → image_in images fun.result ≡ Some body
    → CopiesOf items images (Item.FunctorItem (functor_of_node items fun))
    (node.Functor (record { bound = bound; param = param; further = further; result = body }))
functor_copied items images fun bound further param body h k b f e g copies c = record {
  node = (
    same_kind IsEnv items copies images fun.param param c e h,
    same_kind IsEnv items copies images fun.result body c g k,
  );
  is = ap Item.FunctorItem
      (ap₂ (λ x y. fun_of x (as_env (at copies param)) y (as_env (at copies body))) b f
      ∙ ap₂ (λ x y. fun_of fun.bound (as_env x) fun.further (as_env y)) (c.same fun.param param e)
      (c.same fun.result body g));
  there = tt;
}

abbrev top_with : Env → Table Signature → Table Functor → Table Functor → Top
top_with env sigs funs funsigs = record { env = env; signatures = sigs; functors = funs; funsigs = funsigs }

pub top_copied : (items : List Item) (images : Images) (t made : TopTables) → AreTopTables items t
    → image_in images t.env ≡ Some made.env → AreMapped images t.signatures made.signatures
    → AreMapped images t.functors made.functors → AreMapped images t.funsigs made.funsigs
    → CopiesOf items images (Item.TopItem (top_of_tables items t)) (node.Top made)
top_copied items images t made a e s f g copies c = record {
  node = record {
    env = same_kind IsEnv items copies images t.env made.env c e a.env;
    signatures = all_copied IsSignature items copies images t.signatures made.signatures c s a.signatures;
    functors = all_copied IsFunctor items copies images t.functors made.functors c f a.functors;
    funsigs = all_copied IsFunctor items copies images t.funsigs made.funsigs c g a.funsigs;
  };
  is = ap Item.TopItem
      (ap₂ (λ x y. top_with (as_env x) y (map_rows (λ p. as_functor (at copies p)) made.functors)
      (map_rows (λ p. as_functor (at copies p)) made.funsigs)) (c.same t.env made.env e)
      (rows_copied as_signature items copies images t.signatures made.signatures c s)
      ∙ ap₂ (top_with (as_env (at items t.env)) (map_rows (λ p. as_signature (at items p)) t.signatures))
      (rows_copied as_functor items copies images t.functors made.functors c f)
      (rows_copied as_functor items copies images t.funsigs made.funsigs c g));
  there = tt;
}

-- ---- more nodes

some_is : (x y : ℕ) → Some x ≡ Some y → x ≡ y
some_is x y h = cc

none_some : (q : ℕ) (images : Images) (p : ℕ) → image_in images p ≡ None → image_in images p ≡ Some q → ⊥
none_some q images p h e = cc

pub nothing_copied : (items copies : List Item) (images : Images) → ((p : ℕ) → image_in images p ≡ None)
    → AreCopied items copies images
nothing_copied items copies images h = record {
  same = λ p q e. absurd (none_some q images p (h p) e);
  there = λ p q e. absurd (none_some q images p (h p) e);
}

copied_later : (items : List Item) (old new : Graph) (images : Images) → Extends old new
    → AreCopied items old.items images → AreCopied items new.items images
copied_later items old new images e c = record {
  same = λ p q i. ap (λ z. at z q) e.items
      ∙ at_more IsThere (λ k. k) old.items e.more q (subst IsThere (sym (c.same p q i)) (c.there p q i)) ∙ c.same p q i;
  there = c.there;
}

abbrev pub IsSet : Images → Images → ℕ → ℕ → Type 0
IsSet old new place image = (p : ℕ) → image_in new p ≡ cond (nat_eq place p) (Some image) (image_in old p)

copied_set : (items copies : List Item) (old new : Images) (place image : ℕ) → AreCopied items copies old
    → at copies image ≡ at items place → IsThere (at items place) → IsSet old new place image
    → AreCopied items copies new
copied_set items copies old new place image c h t set = record {
  same = λ p q e. either_way (nat_eq place p)
      (λ s. subst (λ z. at copies z ≡ at items p) (here p q e s)
      (subst (λ z. at copies image ≡ at items z) (eqb-true place p s) h))
      (λ s. c.same p q (before p q e s));
  there = λ p q e. either_way (nat_eq place p)
      (λ s. subst (λ z. IsThere (at items z)) (eqb-true place p s) t)
      (λ s. c.there p q (before p q e s));
}
  where
    here : (p q : ℕ) → image_in new p ≡ Some q → nat_eq place p ≡ Rattle.std.proofs.Common.true → image ≡ q
    here p q e s = some_is image q (sym (ap (λ b. cond b (Some image) (image_in old p)) s) ∙ sym (set p) ∙ e)

    before : (p q : ℕ) → image_in new p ≡ Some q → nat_eq place p ≡ Rattle.std.proofs.Common.false
        → image_in old p ≡ Some q
    before p q e s = sym (ap (λ b. cond b (Some image) (image_in old p)) s) ∙ sym (set p) ∙ e

-- a copy that was added
pub copy_added : (items : List Item) (old new : Graph) (images more : Images) (x : Node) (place image : ℕ)
    → AreCopied items old.items images → CopiesOf items images (at items place) x
    → Adds old new (node_item old.items x) image → IsSet images more place image
    → AreCopied items new.items more
copy_added items old new images more x place image c k a set =
    let copy : IsCopy old.items (at items place) x = k old.items c in
    copied_set items new.items images more place image (copied_later items old new images a.extends c)
    (a.stands ∙ copy.is) copy.there set

pub copy_node : (items copies : List Item) (images : Images) (item : Item) (x : Node) → AreCopied items copies images
    → CopiesOf items images item x → IsNodeAfter copies x
copy_node items copies images item x c k = (k copies c).node

-- ---- the answer

pub top_given : (graph old new : Graph) (images : Images) (id made : TopId) → HasTop graph id → Extends old new
    → AreCopied graph.items new.items images → image_in images id.place ≡ Some made.place
    → GivesTop old new (top_at graph id) made
top_given graph old new images id made h e c i = record {
  there = subst IsTop (sym (c.same id.place made.place i)) h;
  stands = ap as_top (c.same id.place made.place i);
  keeps = keeps old new e;
  home = e.home;
  made = e.made;
}
