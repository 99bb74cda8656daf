-- Environments that match stay so under a choice.
use Rattle.std.proofs.Common.{◌≡◌, ℕ, List, [], ◌∷◌, ◌++◌, map, refl, sym, ap, ap₂, ◌∙◌, subst, Some, true, false, ◌&&◌}
use Rattle.std.specs.Option.{option_map}
use Rattle.semantic_objects.specs.declared.name.TyName.{TyName}
use Rattle.semantic_objects.specs.declared.entry.ConEntry.{ConEntry}
use Rattle.semantic_objects.specs.declared.entry.TypeFn.{TypeFn}
use Rattle.semantic_objects.specs.declared.entry.TypeStr.{TypeStr}
use Rattle.semantic_objects.specs.declared.entry.ValueEntry.{ValueEntry}
use Rattle.semantic_objects.specs.Tables.{Table}
use Rattle.semantic_objects.specs.Trees.{Tree, Trees}
use Rattle.semantic_objects.specs.Environments.{Env, Structures, structures, types}
use Rattle.unification.specs.Types.{Substitution, Marks, State, equality_of, where_parts}
use Rattle.unification.specs.Closing.{put_tree}
use Rattle.unification.specs.Generality.{tree_admits, trees_admit, MarksOwn}
use Rattle.unification.specs.Unification.{Solves}
use Rattle.unification.proofs.Walking.{or_false_left, or_false_right}
use Rattle.env_parts.specs.Types.{holds_free, any_holds_free}
use Rattle.realisation.specs.Realised.{realised}
use Rattle.static_semantics.specs.Inferring.{found_at}
use Rattle.static_semantics.specs.EnvironmentsPut.{put_con, put_type, put_value, each_entry, put_env, put_structures}
use Rattle.static_semantics.specs.Holding.{IfSome, AllItems, AllRows, ValueHas, StructuresHave}
use Rattle.inference_laws.specs.Alike.{FirmType, FirmValue, AnyName, FirmEnv}
use Rattle.inference_laws.proofs.EnvsWith.{items_after, env_types, env_found}
use Rattle.inference_laws.proofs.SeenLater.{tree_changed}
use Rattle.inference_laws.proofs.PutAlike.{firm_type}
use Rattle.module_semantics.specs.Matching.{Item, type_items, value_items, items_under, structure_items}
use Rattle.module_semantics.specs.Promises.{IsOfState}
use Rattle.module_semantics.specs.ElaboratesSignatures.{Respects, EnrichesItem}
use Rattle.phrase_laws.proofs.Finding.{found_put, structures_put, type_found_put, value_found_put}
use Rattle.unit_semantics.specs.Promises.{IsClosedScheme, IsClosedFunction, IsClosedEnv}
use Rattle.matching_choices.proofs.Closed.{free_none, env_stays}
use Rattle.matching_choices.specs.Promises.{MatchingStays}
use Rattle.matching_choices.proofs.Schemes.{general_stays}

-- ---- what is known under a choice

module _ (s p : State) (solves : Solves p s) where
  tree_known : (t : Tree) → put_tree p.stands (put_tree s.stands t) ≡ put_tree p.stands t
  tree_known t = sym (tree_changed s.stands p.stands p.stands t (λ n. sym (solves.types n)))

  cons_known : (cons : List ConEntry)
      → map (put_con p.stands) (map (put_con s.stands) cons) ≡ map (put_con p.stands) cons
  cons_known [] = refl
  cons_known (con ∷ cons) = ap₂ (λ (body : Tree) (rest : List ConEntry).
      (let x : ConEntry = record { name = con.name; scheme = record { marks = con.scheme.marks; body = body } } in x)
      ∷ rest) (tree_known con.scheme.body) (cons_known cons)

  type_known : (str : TypeStr) → put_type p.stands (put_type s.stands str) ≡ put_type p.stands str
  type_known str = ap₂ (λ (body : Tree) (cons : List ConEntry).
      (let x : TypeStr = record { function = record { arity = str.function.arity; body = body }; cons = cons } in x))
      (tree_known str.function.body) (cons_known str.cons)

  value_known : (value : ValueEntry) → put_value p.stands (put_value s.stands value) ≡ put_value p.stands value
  value_known value = ap (λ (body : Tree).
      (let x : ValueEntry = record { status = value.status; scheme = record { marks = value.scheme.marks; body = body } }
      in x)) (tree_known value.scheme.body)

  rows_known : {A : Type 0} (f g : A → A) (rows : Table A) → ((x : A) → f (g x) ≡ f x)
      → each_entry f (each_entry g rows) ≡ each_entry f rows
  rows_known f g [] h = refl
  rows_known f g (row ∷ rows) h = ap₂ (λ x rest. (row.0, x) ∷ rest) (h row.1) (rows_known f g rows h)

  mutual
    pub env_known : (env : Env) → put_env p.stands (put_env s.stands env) ≡ put_env p.stands env
    env_known (Env.MakeEnv ss ts vs) =
        ap (λ z. Env.MakeEnv z (each_entry (put_type p.stands) (each_entry (put_type s.stands) ts))
        (each_entry (put_value p.stands) (each_entry (put_value s.stands) vs))) (structures_known ss)
        ∙ ap₂ (Env.MakeEnv (put_structures p.stands ss))
        (rows_known (put_type p.stands) (put_type s.stands) ts type_known)
        (rows_known (put_value p.stands) (put_value s.stands) vs value_known)

    structures_known : (ss : Structures)
        → put_structures p.stands (put_structures s.stands ss) ≡ put_structures p.stands ss
    structures_known Structures.Nil = refl
    structures_known (Structures.Cons name env rest) =
        ap₂ (λ e others. Structures.Cons name e others) (env_known env) (structures_known rest)

-- ---- type functions in which no variable of the table stands

mutual
  admits_alike : (b f g : Marks) (t : Tree) → holds_free t ≡ false → tree_admits b f t ≡ tree_admits b g t
  admits_alike b f g (Tree.Bound i) h = refl
  admits_alike b f g (Tree.Free n) h = absurd (cc)
  admits_alike b f g (Tree.Made c ts) h = ap (where_parts (equality_of c)) (all_admit_alike b f g ts h)

  all_admit_alike : (b f g : Marks) (ts : Trees) → any_holds_free ts ≡ false → trees_admit b f ts ≡ trees_admit b g ts
  all_admit_alike b f g Trees.Nil h = refl
  all_admit_alike b f g (Trees.Cons t ts) h = ap₂ (λ x y. x && y)
      (admits_alike b f g t (or_false_left (holds_free t) (any_holds_free ts) h))
      (all_admit_alike b f g ts (or_false_right (holds_free t) (any_holds_free ts) h))

respects_still : (s p : State) (name : TyName) (by : TypeFn) → IsClosedFunction by → Respects s name by
    → Respects p name by
respects_still s p name by closed h = record {
  arity = h.arity;
  closed = h.closed;
  equality = λ e. sym (admits_alike (λ i. true) s.marks p.marks by.body closed) ∙ h.equality e;
}

-- ---- what a signature wants

abbrev pub ClosedItem : Item → Type 0
ClosedItem (Item.StructureItem path) = Unit {0}
ClosedItem (Item.TypeItem path want) = Unit {0}
ClosedItem (Item.ValueItem path want) = IsClosedScheme want.scheme

types_want : (path : List (List ℕ)) (ts : Table TypeStr) → AllItems ClosedItem (type_items path ts)
types_want path [] = tt
types_want path (row ∷ rows) = (tt, types_want path rows)

values_want : (path : List (List ℕ)) (vs : Table ValueEntry) → AllRows (ValueHas IsClosedScheme) vs
    → AllItems ClosedItem (value_items path vs)
values_want path [] h = tt
values_want path (row ∷ rows) h = (h.0, values_want path rows h.1)

mutual
  pub env_wants : (path : List (List ℕ)) (env : Env) → IsClosedEnv env → AllItems ClosedItem (items_under path env)
  env_wants path (Env.MakeEnv ss ts vs) h =
      items_after ClosedItem (structure_items path ss) (type_items path ts ++ value_items path vs)
      (structures_want path ss h.0)
      (items_after ClosedItem (type_items path ts) (value_items path vs) (types_want path ts) (values_want path vs h.2))

  structures_want : (path : List (List ℕ)) (ss : Structures) → StructuresHave IsClosedScheme IsClosedFunction ss
      → AllItems ClosedItem (structure_items path ss)
  structures_want path Structures.Nil h = tt
  structures_want path (Structures.Cons name env rest) h = (
    tt,
    items_after ClosedItem (items_under (path ++ name ∷ []) env) (structure_items path rest)
        (env_wants (path ++ name ∷ []) env h.0) (structures_want path rest h.1),
  )

-- ---- what is found

firm_found : (t : Substitution) (path : List (List ℕ)) (env : Env) (str : TypeStr) → FirmEnv env
    → found_at types path env ≡ Some str → found_at types path (put_env t env) ≡ Some str
firm_found t path env str firm e =
    type_found_put t path env ∙ ap (option_map (put_type t)) e
    ∙ ap Some (firm_type t str (subst (IfSome FirmType) e
    (env_found AnyName FirmType FirmValue FirmType types (env_types AnyName FirmType FirmValue) path env firm)))

module _ (s p : State) (env : Env) (solves : Solves p s) (owns : MarksOwn p) (of : IsOfState s env)
    (firm : FirmEnv env) where
  item_stays : (item : Item) → ClosedItem item → EnrichesItem s env item
      → EnrichesItem p (put_env p.stands env) item
  item_stays (Item.StructureItem path) c h = (
    put_env p.stands h.0,
    found_put structures p.stands (put_env p.stands) (structures_put p.stands) path env
        ∙ ap (option_map (put_env p.stands)) h.1,
  )
  item_stays (Item.TypeItem path want) c h = (h.0, firm_found p.stands path env h.0 firm h.1, h.2)
  item_stays (Item.ValueItem path want) c h = (
    put_value p.stands h.0,
    value_found_put p.stands path env ∙ ap (option_map (put_value p.stands)) h.1,
    record {
      scheme = general_stays s p (h.0).scheme want.scheme solves owns (of.values path h.0 h.1)
          (free_none want.scheme.body c) (h.2).scheme;
      status = (h.2).status;
    },
  )

  items_stay : (xs : List Item) → AllItems ClosedItem xs → AllItems (EnrichesItem s env) xs
      → AllItems (EnrichesItem p (put_env p.stands env)) xs
  items_stay [] c h = tt
  items_stay (x ∷ xs) c h = (item_stays x c.0 h.0, items_stay xs c.1 h.1)

pub matching_stays : MatchingStays
matching_stays = record {
  matches = λ s p env sig φ solves owns of firm closed puts h. record {
    realises = record {
      bound = λ name l.
          let b = h.realises.bound name l in
          (b.0, b.1, respects_still s p name b.0 (puts name b.0 b.1) b.2);
      others = h.realises.others;
    };
    enriches = items_stay s p env solves owns of firm (items_under [] (realised φ sig.env))
        (env_wants [] (realised φ sig.env) closed) h.enriches;
  };
  known = λ s p env solves. env_known s p solves env;
  closed = λ t env h. env_stays t env h;
}
