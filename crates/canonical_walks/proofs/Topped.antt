-- Tops in their canonical form.
use Rattle.std.proofs.Common.{◌≡◌, ℕ, List, [], ◌∷◌, ◌++◌, filter, map, refl, sym, ap, ap₂, ◌∙◌, subst}
use Rattle.std.specs.List.{flat_map}
use Rattle.std.proofs.lemmas.List.{append_assoc, append-nil}
use Rattle.semantic_objects.specs.declared.name.TyName.{TyName}
use Rattle.semantic_objects.specs.Tables.{Table}
use Rattle.semantic_objects.specs.Environments.{Top}
use Rattle.env_parts.specs.declared.tables.TopTables.{TopTables}
use Rattle.sml_modules.specs.declared.id.EnvId.{EnvId}
use Rattle.sml_modules.specs.Items.{Item, at, as_env, as_signature, as_functor, as_top, IsSignature, IsFunctor, IsTop, map_rows}
use Rattle.sml_modules.specs.Graphs.{Graph, env_at, HasEnv, GivesTop}
use Rattle.sml_modules.specs.declared.node.Node.{Node}
use Rattle.sml_modules.specs.declared.node.Node.TheVariants as node
use Rattle.sml_modules.specs.declared.node.SigNode.{SigNode}
use Rattle.sml_modules.specs.declared.node.FunNode.{FunNode}
use Rattle.sml_modules.specs.Nodes.{AreAll, AreTopTables, top_of_tables, node_item, IsNodeAfter}
use Rattle.sml_modules.specs.Adding.{Extends, Adds, StandsAt}
use Rattle.sml_modules.proofs.Keeping.{keeps, extends_self, extends_then}
use Rattle.realisation.specs.Names.{names_in_env, names_in_functor, names_in_signatures, names_in_functors, names_in_top, once}
use Rattle.realisation.specs.Environments.{each_row}
use Rattle.realisation.specs.Canonical.{met, is_own, to_canonical, canonical_env, canonical_signature, canonical_functor, canonical}
use Rattle.environment_walks.specs.Changing.{IsChangedEnv}
use Rattle.name_walks.specs.Places.{HasAll, names_in_all}
use Rattle.canonical_types.specs.Orders.{by_order}
use Rattle.canonical_walks.specs.Binders.{CanonRows, binder_names, canonical_by, AddsEnvs, MakesTop}
use Rattle.canonical_walks.proofs.Binding.{top_is, top_canonical}
use Rattle.canonical_types.proofs.Ordered.{filter_once}
use Rattle.canonical_walks.proofs.Canons.{all_still, rows_still}

abbrev pub env_id : ℕ → EnvId
env_id p = record { place = p }

-- ---- environments that are added

all_there : (g : Graph) (xs : List EnvId) (id : EnvId) → HasAll g xs → HasEnv g id → HasAll g (xs ++ id ∷ [])
all_there g [] id h k = (k, tt)
all_there g (x ∷ xs) id h k = (h.0, all_there g xs id h.1 k)

all_names : (g : Graph) (xs : List EnvId) (id : EnvId)
    → names_in_all g (xs ++ id ∷ []) ≡ names_in_all g xs ++ names_in_env (env_at g id)
all_names g [] id = append-nil (names_in_env (env_at g id))
all_names g (x ∷ xs) id = ap (λ z. names_in_env (env_at g x) ++ z) (all_names g xs id)
    ∙ sym (append_assoc (names_in_env (env_at g x)) (names_in_all g xs) (names_in_env (env_at g id)))

pub env_added : (g : Graph) (id : EnvId) (old new : List EnvId) → HasEnv g id → new ≡ old ++ id ∷ []
    → AddsEnvs g (names_in_env (env_at g id)) old new
env_added g id old new h e = record {
  there = λ k. subst (HasAll g) (sym e) (all_there g old id k h);
  are = ap (names_in_all g) e ∙ all_names g old id;
}

pub adds_both : (g : Graph) (xs ys : List TyName) (a b c : List EnvId) → AddsEnvs g xs a b → AddsEnvs g ys b c
    → AddsEnvs g (xs ++ ys) a c
adds_both g xs ys a b c h k = record {
  there = λ t. k.there (h.there t);
  are = k.are ∙ ap (λ z. z ++ ys) h.are ∙ append_assoc (names_in_all g a) xs ys;
}

pub adds_none : (g : Graph) (a : List EnvId) → AddsEnvs g [] a a
adds_none g a = record { there = λ t. t; are = sym (append-nil (names_in_all g a)) }

pub adds_other : (g : Graph) (xs ys : List TyName) (a b : List EnvId) → xs ≡ ys → AddsEnvs g xs a b
    → AddsEnvs g ys a b
adds_other g xs ys a b e h = subst (λ z. AddsEnvs g z a b) e h

-- ---- the names of rows

abbrev place_names : List Item → ℕ → List TyName
place_names items p = binder_names (at items p)

sig_names : (x : Item) → IsSignature x → binder_names x ≡ names_in_env (as_signature x).env
sig_names (Item.SignatureItem s) h = refl
sig_names Item.Nowhere h = absurd h
sig_names (Item.TypeItem x) h = absurd h
sig_names (Item.ValueItem x) h = absurd h
sig_names (Item.EnvItem x) h = absurd h
sig_names (Item.FunctorItem x) h = absurd h
sig_names (Item.TopItem x) h = absurd h

fun_names : (x : Item) → IsFunctor x → binder_names x ≡ names_in_functor (as_functor x)
fun_names (Item.FunctorItem f) h = refl
fun_names Item.Nowhere h = absurd h
fun_names (Item.TypeItem x) h = absurd h
fun_names (Item.ValueItem x) h = absurd h
fun_names (Item.EnvItem x) h = absurd h
fun_names (Item.SignatureItem x) h = absurd h
fun_names (Item.TopItem x) h = absurd h

sig_rows_named : (items : List Item) (rows : Table ℕ) → AreAll IsSignature items rows
    → flat_map (place_names items) (map (λ row. row.1) rows)
    ≡ names_in_signatures (map_rows (λ p. as_signature (at items p)) rows)
sig_rows_named items [] h = refl
sig_rows_named items (r ∷ rs) h = ap₂ (λ x y. x ++ y) (sig_names (at items r.1) h.0) (sig_rows_named items rs h.1)

fun_rows_named : (items : List Item) (rows : Table ℕ) → AreAll IsFunctor items rows
    → flat_map (place_names items) (map (λ row. row.1) rows)
    ≡ names_in_functors (map_rows (λ p. as_functor (at items p)) rows)
fun_rows_named items [] h = refl
fun_rows_named items (r ∷ rs) h = ap₂ (λ x y. x ++ y) (fun_names (at items r.1) h.0) (fun_rows_named items rs h.1)

abbrev rows_names : List Item → Table ℕ → List TyName
rows_names items rows = flat_map (place_names items) (map (λ row. row.1) rows)

pub top_named : (g : Graph) (t : TopTables) (a b c d e : List EnvId) → AreTopTables g.items t → a ≡ []
    → b ≡ a ++ env_id t.env ∷ []
    → AddsEnvs g (rows_names g.items t.signatures) b c → AddsEnvs g (rows_names g.items t.functors) c d
    → AddsEnvs g (rows_names g.items t.funsigs) d e
    → HasAll g e × (names_in_all g e ≡ names_in_top (top_of_tables g.items t))
top_named g t a b c d e are none first s f h =
    let id : EnvId = env_id t.env in
    let ns : List TyName = rows_names g.items t.signatures in
    let nf : List TyName = rows_names g.items t.functors in
    let ng : List TyName = rows_names g.items t.funsigs in
    let whole : AddsEnvs g (names_in_env (env_at g id) ++ (ns ++ (nf ++ ng))) a e =
    adds_both g (names_in_env (env_at g id)) (ns ++ (nf ++ ng)) a b e (env_added g id a b are.env first)
    (adds_both g ns (nf ++ ng) b c e s (adds_both g nf ng c d e f h)) in (
      whole.there (subst (HasAll g) (sym none) tt),
      whole.are ∙ ap (λ z. names_in_all g z ++ (names_in_env (env_at g id) ++ (ns ++ (nf ++ ng)))) none
          ∙ ap (λ z. names_in_env (env_at g id) ++ z) (ap₂ (λ x y. x ++ y)
          (sig_rows_named g.items t.signatures are.signatures) (ap₂ (λ x y. x ++ y)
          (fun_rows_named g.items t.functors are.functors) (fun_rows_named g.items t.funsigs are.funsigs))),
    )

-- ---- tables in their canonical form

sigs_moved : (own : List TyName) (a b c d : Graph) (rows made : Table ℕ) → Extends a b → Extends c d
    → CanonRows own b.items rows c.items made → AreAll IsSignature a.items rows → AreAll IsSignature d.items made
    × (map_rows (λ p. as_signature (at d.items p)) made
    ≡ each_row (canonical_signature (by_order own)) (map_rows (λ p. as_signature (at a.items p)) rows))
sigs_moved own a b c d rows made e f h are =
    let k = h.signatures (all_still IsSignature (λ z. z) a b e rows are) in (
      all_still IsSignature (λ z. z) c d f made k.0,
      rows_still IsSignature (λ z. z) as_signature c d f made k.0 ∙ k.1
          ∙ ap (each_row (canonical_signature (by_order own)))
          (rows_still IsSignature (λ z. z) as_signature a b e rows are),
    )

funs_moved : (own : List TyName) (a b c d : Graph) (rows made : Table ℕ) → Extends a b → Extends c d
    → CanonRows own b.items rows c.items made → AreAll IsFunctor a.items rows → AreAll IsFunctor d.items made
    × (map_rows (λ p. as_functor (at d.items p)) made
    ≡ each_row (canonical_functor (by_order own)) (map_rows (λ p. as_functor (at a.items p)) rows))
funs_moved own a b c d rows made e f h are =
    let k = h.functors (all_still IsFunctor (λ z. z) a b e rows are) in (
      all_still IsFunctor (λ z. z) c d f made k.0,
      rows_still IsFunctor (λ z. z) as_functor c d f made k.0 ∙ k.1
          ∙ ap (each_row (canonical_functor (by_order own)))
          (rows_still IsFunctor (λ z. z) as_functor a b e rows are),
    )

pub top_made : (own : List TyName) (t : TopTables) (env : EnvId) (sigs funs funsigs : Table ℕ) (a b c d e : Graph)
    → AreTopTables a.items t → Extends a b → Extends b c → Extends c d → Extends d e
    → IsChangedEnv (to_canonical (by_order own)) a (env_id t.env) b env
    → CanonRows own b.items t.signatures c.items sigs → CanonRows own c.items t.functors d.items funs
    → CanonRows own d.items t.funsigs e.items funsigs
    → MakesTop e.items (canonical_by (by_order own) (top_of_tables a.items t))
    (record { env = env.place; signatures = sigs; functors = funs; funsigs = funsigs })
top_made own t env sigs funs funsigs a b c d e are x y z w h s u v =
    let b_to_e : Extends b e = extends_then b c e y (extends_then c d e z w) in
    let a_to_c : Extends a c = extends_then a b c x y in
    let made_sigs = sigs_moved own a b c e t.signatures sigs x (extends_then c d e z w) s are.signatures in
    let made_funs = funs_moved own a c d e t.functors funs a_to_c w u are.functors in
    let made_funsigs = funs_moved own a d e e t.funsigs funsigs (extends_then a c d a_to_c z) (extends_self e) v
    are.funsigs in
    let later = keeps b e b_to_e in
    record {
      are = record {
        env = later.has_env env h.there;
        signatures = made_sigs.0;
        functors = made_funs.0;
        funsigs = made_funsigs.0;
      };
      is = top_is (as_env (at e.items env.place)) (canonical_env (by_order own) (as_env (at a.items t.env)))
          (map_rows (λ p. as_signature (at e.items p)) sigs)
          (each_row (canonical_signature (by_order own)) (map_rows (λ p. as_signature (at a.items p)) t.signatures))
          (map_rows (λ p. as_functor (at e.items p)) funs)
          (each_row (canonical_functor (by_order own)) (map_rows (λ p. as_functor (at a.items p)) t.functors))
          (map_rows (λ p. as_functor (at e.items p)) funsigs)
          (each_row (canonical_functor (by_order own)) (map_rows (λ p. as_functor (at a.items p)) t.funsigs))
          (later.env env h.there ∙ h.stands) made_sigs.1 made_funs.1 made_funsigs.1;
    }

pub own_found : (g : Graph) (t : TopTables) (envs : List EnvId) (names own order : List TyName) (home : List ℕ)
    → names_in_all g envs ≡ names_in_top (top_of_tables g.items t) → names ≡ once (names_in_all g envs)
    → home ≡ g.home → own ≡ filter (is_own home) names → order ≡ own
    → order ≡ met (is_own g.home) (names_in_top (top_of_tables g.items t))
own_found g t envs names own order home a b c d e =
    e ∙ d ∙ ap₂ (λ h ns. filter (is_own h) ns) c (b ∙ ap once a)
    ∙ filter_once (is_own g.home) (names_in_top (top_of_tables g.items t))

pub top_given : (old mid new : Graph) (top : Top) (own : List TyName) (t made : TopTables) (place : ℕ)
    → top ≡ top_of_tables old.items t → own ≡ met (is_own old.home) (names_in_top (top_of_tables old.items t))
    → Extends old mid → MakesTop mid.items (canonical_by (by_order own) (top_of_tables old.items t)) made
    → Adds mid new (Item.TopItem (top_of_tables mid.items made)) place
    → GivesTop old new (canonical old.home top) (record { place = place })
top_given old mid new top own t made place r o x m a =
    let stands : at new.items place ≡ Item.TopItem (canonical old.home top) =
    a.stands ∙ ap Item.TopItem (m.is ∙ top_canonical old.home (top_of_tables old.items t) own o
    ∙ ap (canonical old.home) (sym r)) in
    let grown : Extends old new = extends_then old mid new x a.extends in
    record {
      there = subst IsTop (sym stands) tt;
      stands = ap as_top stands;
      keeps = keeps old new grown;
      home = grown.home;
      made = grown.made;
    }

-- ---- environments of binders

pub sig_added : (g : Graph) (place : ℕ) (x : Node) (kept : SigNode) (old new : List EnvId) → StandsAt g.items place x
    → x ≡ node.Signature kept → new ≡ old ++ env_id kept.env ∷ [] → AddsEnvs g (binder_names (at g.items place)) old new
sig_added g place x kept old new s e f = adds_other g (names_in_env (env_at g (env_id kept.env)))
    (binder_names (at g.items place)) old new
    (sym (ap binder_names (s.is ∙ ap (node_item g.items) e)))
    (env_added g (env_id kept.env) old new (subst (IsNodeAfter g.items) e s.node) f)

pub fun_added : (g : Graph) (place : ℕ) (x : Node) (kept : FunNode) (old mid new : List EnvId)
    → StandsAt g.items place x → x ≡ node.Functor kept → mid ≡ old ++ env_id kept.param ∷ []
    → new ≡ mid ++ env_id kept.result ∷ [] → AddsEnvs g (binder_names (at g.items place)) old new
fun_added g place x kept old mid new s e f h =
    let are = subst (IsNodeAfter g.items) e s.node in
    adds_other g (names_in_env (env_at g (env_id kept.param)) ++ names_in_env (env_at g (env_id kept.result)))
    (binder_names (at g.items place)) old new
    (sym (ap binder_names (s.is ∙ ap (node_item g.items) e)))
    (adds_both g (names_in_env (env_at g (env_id kept.param))) (names_in_env (env_at g (env_id kept.result))) old mid new
    (env_added g (env_id kept.param) old mid are.0 f) (env_added g (env_id kept.result) mid new are.1 h))

pub rows_next : (g : Graph) (f : ℕ → List TyName) (all : List TyName) (rest more : List ℕ) (p : ℕ) (a b : List EnvId)
    → rest ≡ p ∷ more → AddsEnvs g (f p) a b → names_in_all g a ++ flat_map f rest ≡ all
    → names_in_all g b ++ flat_map f more ≡ all
rows_next g f all rest more p a b e h i = ap (λ z. z ++ flat_map f more) h.are
    ∙ append_assoc (names_in_all g a) (f p) (flat_map f more)
    ∙ ap (λ z. names_in_all g a ++ flat_map f z) (sym e) ∙ i
