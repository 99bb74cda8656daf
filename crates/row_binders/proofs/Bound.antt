-- Signatures and functors over environments, and the rows that are signatures and functors.
use Rattle.std.proofs.Common.{◌≡◌, ◌≢◌, ℕ, sym, ap, ap₂, subst, ◌∙◌, List, [], ◌∷◌, ◌++◌, length, filter, Option, Some, None, false}
use Rattle.node_bytes.specs.Nodes.{Node, Content}
use Rattle.node_bytes.specs.Shapes.{with_number}
use Rattle.node_bytes.specs.Tables.{content_of, row_node}
use Rattle.node_bytes.specs.declared.table.Item as part
use Rattle.node_bytes.specs.declared.table.Row.{Row}
use Rattle.semantic_objects.specs.declared.name.TyName.{TyName}
use Rattle.semantic_objects.specs.Environments.{Env, Signature, Functor}
use Rattle.realisation.specs.Names.{names_in_env, once}
use Rattle.realisation.specs.Canonical.{met, is_bound_name}
use Rattle.canonical_types.specs.Orders.{is_of}
use Rattle.canonical_types.proofs.Ordered.{both_filters, filter_once}
use Rattle.interface_format.specs.Tags.{signature_node, functor_node}
use Rattle.interface_format.specs.Trees.{env_node}
use Rattle.interface_format.specs.Rules.{IsNumber, AreNumbered, is_beyond}
use Rattle.interface_format.specs.Rules as rules
use Rattle.interface_format.proofs.Told.{part_told, number_then_told}
use Rattle.interface_format.proofs.Environments.{env_told}
use Rattle.restoring_laws.proofs.Numbered.{names_agree}
use Rattle.interface_nodes.specs.Fields.{node_at}
use Rattle.sml_modules.specs.Items.{Item, at, as_env, as_signature, as_functor, IsEnv, IsSignature, IsFunctor}
use Rattle.sml_modules.specs.Graphs.{Graph}
use Rattle.sml_modules.specs.Adding.{Extends}
use Rattle.row_forms.specs.declared.entries.CountedForm.{CountedForm}
use Rattle.row_forms.specs.declared.modules.FunctorForm.{FunctorForm}
use Rattle.row_forms.specs.Forms.{IsForm, NeverForm, with_counted, FitsCounted, counted_at, with_functor, FitsFunctor, functor_at}
use Rattle.row_entries.specs.Told.{ToldAt}
use Rattle.row_entries.proofs.Found.{row_is}
use Rattle.row_environments.specs.Placed.{IsEnvOf, StandsFor, PlaceOrNone, AreAllPlaced, HavePlaces}
use Rattle.row_environments.specs.Answers.{PlacesRow}
use Rattle.sml_modules.proofs.Unfolding.{Never}
use Rattle.row_environments.proofs.Placing.{placed_at}
use Rattle.row_environments.proofs.Valued.{values_kept}
use Rattle.row_environments.proofs.Staying.{place_more, all_more, all_push, placed_more}
use Rattle.row_binders.specs.declared.rows.BinderRows.{BinderRows}
use Rattle.row_binders.specs.Binders.{IsSignatureOf, IsFunctorOf, AreCounted, FindsSignature, FindsFunctor, AreEnvsPlaced, FormsSignature, FormsFunctor, PlacesSignature, PlacesFunctor, HaveEnvs, HaveBound, PlacesBinder}

content_same : (s t : ℕ) (c d : Content) → Node.node s c ≡ Node.node t d → c ≡ d
content_same s t c d e = cc

tag_same : (s t : ℕ) (c d : Content) → Node.node s c ≡ Node.node t d → s ≡ t
tag_same s t c d e = cc

-- ---- names

-- the bound names of an environment
pub bound_met : (env : Env) (names bound : List TyName) → names ≡ once (names_in_env env)
    → bound ≡ filter is_bound_name names → bound ≡ met is_bound_name (names_in_env env)
bound_met env names bound a b =
    b ∙ ap (filter is_bound_name) a ∙ filter_once is_bound_name (names_in_env env)

-- .. beyond those of a parameter
pub beyond_met : (env : Env) (bound names further : List TyName) → names ≡ once (names_in_env env)
    → further ≡ filter (is_of bound false) (filter is_bound_name names)
    → further ≡ met (is_beyond bound) (names_in_env env)
beyond_met env bound names further a b =
    b ∙ both_filters (is_of bound false) is_bound_name names ∙ ap (filter (is_beyond bound)) a
    ∙ filter_once (is_beyond bound) (names_in_env env)

-- ---- an environment of a node

one_env : (home : List ℕ) (x : Node) (d e : Env) → IsEnvOf home x d → rules.IsEnv e → x ≡ env_node home e → d ≡ e
one_env home x d e h k n = env_told home d e h.rules k (sym h.node ∙ n)

-- ---- signatures

abbrev sig_of : List TyName → Env → Signature
sig_of bound env = record { bound = bound; env = env }

pub signature_found : (env : Env) (count : ℕ) (bound : List TyName) (items : List Item) (p : ℕ)
    → bound ≡ met is_bound_name (names_in_env env) → AreCounted 0 count bound
    → at items p ≡ Item.SignatureItem (sig_of bound env) → FindsSignature env count items (Some p)
signature_found env count bound items p b c i home x e n = record {
  kind = subst IsSignature (sym i) tt;
  is = subst (IsSignatureOf home (signature_node count x)) (sym (ap as_signature i)) (record {
    node = ap₂ signature_node (sym c.counted) e.node;
    rules = record {
      env = e.rules;
      bound = b;
      numbered = c.numbered;
      agree = names_agree.signature (names_in_env env) (subst (AreNumbered 0) b c.numbered);
      counted = subst IsNumber (sym c.counted) n;
    };
  });
}

pub signature_uncounted : (env : Env) (count : ℕ) (bound : List TyName) (items : List Item)
    → bound ≡ met is_bound_name (names_in_env env) → (AreCounted 0 count bound → ⊥)
    → FindsSignature env count items None
signature_uncounted env count bound items b never home x e n sig is =
    let told = number_then_told count (length sig.bound) (Content.part x Content.nothing)
    (Content.part (env_node home sig.env) Content.nothing) n is.rules.counted
    (content_same 9 9 (with_number count (Content.part x Content.nothing))
    (with_number (length sig.bound) (Content.part (env_node home sig.env) Content.nothing)) is.node) in
    let node = part_told x (env_node home sig.env) Content.nothing Content.nothing told.rest in
    let same : env ≡ sig.env = one_env home x env sig.env e is.rules.env node.item in
    let names : sig.bound ≡ bound =
    is.rules.bound ∙ ap (λ z. met is_bound_name (names_in_env z)) (sym same) ∙ sym b in
    never (record {
      counted = ap length (sym names) ∙ sym told.item;
      numbered = subst (AreNumbered 0) names is.rules.numbered;
    })

-- ---- functors

abbrev fun_of : List TyName → Env → List TyName → Env → Functor
fun_of bound param further result = record { bound = bound; param = param; further = further; result = result }

pub functor_found : (param result : Env) (form : FunctorForm) (bound further : List TyName) (items : List Item) (p : ℕ)
    → bound ≡ met is_bound_name (names_in_env param) → AreCounted 0 form.bound bound
    → further ≡ met (is_beyond bound) (names_in_env result) → AreCounted form.bound form.further further
    → at items p ≡ Item.FunctorItem (fun_of bound param further result)
    → FindsFunctor param result form items (Some p)
functor_found param result form bound further items p b c f d i home x y e g n m = record {
  kind = subst IsFunctor (sym i) tt;
  is = subst (IsFunctorOf home (functor_node form.bound x form.further y)) (sym (ap as_functor i)) (record {
    node = ap₂ (λ k z. functor_node k z form.further y) (sym c.counted) e.node
        ∙ ap₂ (λ k z. functor_node (length bound) (env_node home param) k z) (sym d.counted) g.node;
    rules = record {
      param = e.rules;
      result = g.rules;
      bound = b;
      further = f;
      bound_numbered = c.numbered;
      further_numbered = numbered;
      agree = names_agree.functor (names_in_env param) (names_in_env result) (subst (AreNumbered 0) b c.numbered)
          (subst (λ z. AreNumbered (length z) (met (is_beyond z) (names_in_env result))) b
          (subst (AreNumbered (length bound)) f numbered));
      bound_counted = subst IsNumber (sym c.counted) n;
      further_counted = subst IsNumber (sym d.counted) m;
    };
  });
}
  where
    numbered : AreNumbered (length bound) further
    numbered = subst (λ k. AreNumbered k further) (sym c.counted) d.numbered

-- what a functor of these nodes is
record SameFunctor (param result : Env) (form : FunctorForm) (fun : Functor) : Type 0 where
  param_is : param ≡ fun.param
  result_is : result ≡ fun.result
  bound_is : form.bound ≡ length fun.bound
  further_is : form.further ≡ length fun.further

same_functor : (param result : Env) (form : FunctorForm) (home : List ℕ) (x y : Node) (fun : Functor)
    → IsEnvOf home x param → IsEnvOf home y result → IsNumber form.bound → IsNumber form.further
    → IsFunctorOf home (functor_node form.bound x form.further y) fun → SameFunctor param result form fun
same_functor param result form home x y fun e g n m is =
    let last : Node → Content = λ z. Content.part z Content.nothing in
    let there = env_node home fun.param in
    let end = env_node home fun.result in
    let more : Content = with_number form.further (last y) in
    let others : Content = with_number (length fun.further) (last end) in
    let a = number_then_told form.bound (length fun.bound) (Content.part x more) (Content.part there others) n
    is.rules.bound_counted
    (content_same 10 10 (with_number form.bound (Content.part x more))
    (with_number (length fun.bound) (Content.part there others)) is.node) in
    let b = part_told x there more others a.rest in
    let c = number_then_told form.further (length fun.further) (last y) (last end) m is.rules.further_counted b.rest in
    let d = part_told y end Content.nothing Content.nothing c.rest in
    record {
      param_is = one_env home x param fun.param e is.rules.param b.item;
      result_is = one_env home y result fun.result g is.rules.result d.item;
      bound_is = a.item;
      further_is = c.item;
    }

-- its bound names
firsts : (param result : Env) (form : FunctorForm) (fun : Functor) (bound : List TyName)
    → bound ≡ met is_bound_name (names_in_env param) → rules.IsFunctor fun → SameFunctor param result form fun
    → fun.bound ≡ bound
firsts param result form fun bound b is same =
    is.bound ∙ ap (λ z. met is_bound_name (names_in_env z)) (sym same.param_is) ∙ sym b

pub functor_uncounted : (param result : Env) (form : FunctorForm) (bound : List TyName) (items : List Item)
    → bound ≡ met is_bound_name (names_in_env param) → (AreCounted 0 form.bound bound → ⊥)
    → FindsFunctor param result form items None
functor_uncounted param result form bound items b never home x y e g n m fun is =
    let same = same_functor param result form home x y fun e g n m is in
    let names = firsts param result form fun bound b is.rules same in
    never (record {
      counted = ap length (sym names) ∙ sym same.bound_is;
      numbered = subst (AreNumbered 0) names is.rules.bound_numbered;
    })

pub functor_beyond : (param result : Env) (form : FunctorForm) (bound further : List TyName) (items : List Item)
    → bound ≡ met is_bound_name (names_in_env param) → AreCounted 0 form.bound bound
    → further ≡ met (is_beyond bound) (names_in_env result) → (AreCounted form.bound form.further further → ⊥)
    → FindsFunctor param result form items None
functor_beyond param result form bound further items b c f never home x y e g n m fun is =
    let same = same_functor param result form home x y fun e g n m is in
    let names = firsts param result form fun bound b is.rules same in
    let more : fun.further ≡ further =
    is.rules.further ∙ ap (λ z. met (is_beyond z) (names_in_env fun.result)) names
    ∙ ap (λ z. met (is_beyond bound) (names_in_env z)) (sym same.result_is) ∙ sym f in
    never (record {
      counted = ap length (sym more) ∙ sym same.further_is;
      numbered = subst (λ k. AreNumbered k further) (ap length names ∙ c.counted)
          (subst (AreNumbered (length fun.bound)) more is.rules.further_numbered);
    })

-- ---- fields

-- the environment that a row is
env_at : (home : List ℕ) (items : List Item) (made : List Node) (envs : List (Option ℕ)) (row p : ℕ)
    → AreEnvsPlaced home items made envs → ToldAt envs row (Some p)
    → StandsFor IsEnv as_env (IsEnvOf home (node_at made row)) items p
env_at home items made envs row p h t = placed_at IsEnv as_env (IsEnvOf home) items made envs row (Some p) h t

pub env_stands : (home : List ℕ) (items : List Item) (made : List Node) (envs : List (Option ℕ)) (row p : ℕ)
    → AreEnvsPlaced home items made envs → ToldAt envs row (Some p) → IsEnv (at items p)
env_stands home items made envs row p h t = (env_at home items made envs row p h t).kind

no_env : (home : List ℕ) (items : List Item) (made : List Node) (envs : List (Option ℕ)) (row : ℕ)
    → AreEnvsPlaced home items made envs → ToldAt envs row None → (env : Env) → IsEnvOf home (node_at made row) env → ⊥
no_env home items made envs row h t = placed_at IsEnv as_env (IsEnvOf home) items made envs row None h t

pub signature_formed : (envs : List (Option ℕ)) (old items : List Item) (form : CountedForm) (env : ℕ)
    (found : Option ℕ) → ToldAt envs form.place (Some env)
    → FindsSignature (as_env (at old env)) form.count items found → FormsSignature envs old form items found
signature_formed envs old items form env found t h home made placed n =
    h home (node_at made form.place) ((env_at home old made envs form.place env placed t).is) n

pub signature_lacks : (envs : List (Option ℕ)) (old items : List Item) (form : CountedForm) → ToldAt envs form.place None
    → FormsSignature envs old form items None
signature_lacks envs old items form t home made placed n sig is =
    let x = node_at made form.place in
    let told = number_then_told form.count (length sig.bound) (Content.part x Content.nothing)
    (Content.part (env_node home sig.env) Content.nothing) n is.rules.counted
    (content_same 9 9 (with_number form.count (Content.part x Content.nothing))
    (with_number (length sig.bound) (Content.part (env_node home sig.env) Content.nothing)) is.node) in
    let node = part_told x (env_node home sig.env) Content.nothing Content.nothing told.rest in
    no_env home old made envs form.place placed t sig.env (record { node = node.item; rules = is.rules.env })

pub functor_formed : (envs : List (Option ℕ)) (old items : List Item) (form : FunctorForm) (param body : ℕ)
    (found : Option ℕ) → ToldAt envs form.param (Some param) → ToldAt envs form.body (Some body)
    → FindsFunctor (as_env (at old param)) (as_env (at old body)) form items found
    → FormsFunctor envs old form items found
functor_formed envs old items form param body found t u h home made placed n m =
    h home (node_at made form.param) (node_at made form.body)
    ((env_at home old made envs form.param param placed t).is) ((env_at home old made envs form.body body placed u).is) n m

-- the two environments of a functor of these fields
record FunctorParts (home : List ℕ) (x y : Node) (fun : Functor) : Type 0 where
  param : IsEnvOf home x fun.param
  result : IsEnvOf home y fun.result

functor_parts : (form : FunctorForm) (home : List ℕ) (x y : Node) (fun : Functor) → IsNumber form.bound
    → IsNumber form.further → IsFunctorOf home (functor_node form.bound x form.further y) fun → FunctorParts home x y fun
functor_parts form home x y fun n m is =
    let last : Node → Content = λ z. Content.part z Content.nothing in
    let there = env_node home fun.param in
    let end = env_node home fun.result in
    let more : Content = with_number form.further (last y) in
    let others : Content = with_number (length fun.further) (last end) in
    let a = number_then_told form.bound (length fun.bound) (Content.part x more) (Content.part there others) n
    is.rules.bound_counted
    (content_same 10 10 (with_number form.bound (Content.part x more))
    (with_number (length fun.bound) (Content.part there others)) is.node) in
    let b = part_told x there more others a.rest in
    let c = number_then_told form.further (length fun.further) (last y) (last end) m is.rules.further_counted b.rest in
    let d = part_told y end Content.nothing Content.nothing c.rest in
    record {
      param = record { node = b.item; rules = is.rules.param };
      result = record { node = d.item; rules = is.rules.result };
    }

pub functor_lacks_param : (envs : List (Option ℕ)) (old items : List Item) (form : FunctorForm)
    → ToldAt envs form.param None → FormsFunctor envs old form items None
functor_lacks_param envs old items form t home made placed n m fun is =
    no_env home old made envs form.param placed t fun.param
    ((functor_parts form home (node_at made form.param) (node_at made form.body) fun n m is).param)

pub functor_lacks_body : (envs : List (Option ℕ)) (old items : List Item) (form : FunctorForm)
    → ToldAt envs form.body None → FormsFunctor envs old form items None
functor_lacks_body envs old items form t home made placed n m fun is =
    no_env home old made envs form.body placed t fun.result
    ((functor_parts form home (node_at made form.param) (node_at made form.body) fun n m is).result)

-- ---- rows

pub signature_tagged : (envs : List (Option ℕ)) (old items : List Item) (row : Row) → row.tag ≢ 9
    → PlacesSignature envs old row items None
signature_tagged envs old items row other home made placed sig is =
    other (tag_same row.tag 9 (content_of made row.items)
    (with_number (length sig.bound) (Content.part (env_node home sig.env) Content.nothing)) is.node)

pub signature_never : (envs : List (Option ℕ)) (old items : List Item) (row : Row) (slice : List part.Item)
    → slice ≡ row.items → NeverForm FitsCounted with_counted slice → PlacesSignature envs old row items None
signature_never envs old items row slice e h home made placed sig is =
    h.never made (length sig.bound, env_node home sig.env) (record { first = is.rules.counted; second = tt })
    (ap (content_of made) e
    ∙ content_same row.tag 9 (content_of made row.items)
    (with_number (length sig.bound) (Content.part (env_node home sig.env) Content.nothing)) is.node)

pub signature_placed : (envs : List (Option ℕ)) (old items : List Item) (row : Row) (slice : List part.Item)
    (form : CountedForm) (found : Option ℕ) → row.tag ≡ 9 → slice ≡ row.items
    → ((made : List Node) → IsForm FitsCounted with_counted made (counted_at made form) slice)
    → FormsSignature envs old form items found → PlacesSignature envs old row items found
signature_placed envs old items row slice form found t e h k home made placed =
    subst (λ x. PlaceOrNone IsSignature as_signature (IsSignatureOf home x) items found)
    (row_is made row 9 slice (with_counted (counted_at made form) Content.nothing) t e ((h made).is))
    (k home made placed ((h made).fits.first))

abbrev content_of_functor : List ℕ → Functor → Content
content_of_functor home fun = with_number (length fun.bound) (Content.part (env_node home fun.param)
    (with_number (length fun.further) (Content.part (env_node home fun.result) Content.nothing)))

pub functor_tagged : (envs : List (Option ℕ)) (old items : List Item) (row : Row) → row.tag ≢ 10
    → PlacesFunctor envs old row items None
functor_tagged envs old items row other home made placed fun is =
    other (tag_same row.tag 10 (content_of made row.items) (content_of_functor home fun) is.node)

pub functor_never : (envs : List (Option ℕ)) (old items : List Item) (row : Row) (slice : List part.Item)
    → slice ≡ row.items → NeverForm FitsFunctor with_functor slice → PlacesFunctor envs old row items None
functor_never envs old items row slice e h home made placed fun is =
    h.never made (length fun.bound, (env_node home fun.param, (length fun.further, env_node home fun.result)))
    (record {
      first = is.rules.bound_counted;
      second = record {
        first = tt;
        second = record { first = is.rules.further_counted; second = tt };
      };
    })
    (ap (content_of made) e
    ∙ content_same row.tag 10 (content_of made row.items) (content_of_functor home fun) is.node)

pub functor_placed : (envs : List (Option ℕ)) (old items : List Item) (row : Row) (slice : List part.Item)
    (form : FunctorForm) (found : Option ℕ) → row.tag ≡ 10 → slice ≡ row.items
    → ((made : List Node) → IsForm FitsFunctor with_functor made (functor_at made form) slice)
    → FormsFunctor envs old form items found → PlacesFunctor envs old row items found
functor_placed envs old items row slice form found t e h k home made placed =
    subst (λ x. PlaceOrNone IsFunctor as_functor (IsFunctorOf home x) items found)
    (row_is made row 10 slice (with_functor (functor_at made form) Content.nothing) t e ((h made).is))
    (k home made placed ((h made).fits.first) ((h made).fits.second.second.first))

-- ---- one row more

pub binder_placed : (home : List ℕ) (a b c d : Graph) (old new : BinderRows) (row : Row) (signature functor : Option ℕ)
    → Extends a b → Extends b c → Extends c d → PlacesSignature old.envs.told.envs a.items row b.items signature
    → PlacesFunctor old.envs.told.envs b.items row c.items functor
    → PlacesRow home c.items d.items old.envs.told row new.envs.told
    → new.signatures ≡ old.signatures ++ signature ∷ [] → new.functors ≡ old.functors ++ functor ∷ []
    → PlacesBinder home a.items d.items old row new
binder_placed home a b c d old new row signature functor e f g s k t m n made h =
    let at_b = placed_more home a b made old.envs.told e h.told in
    let at_c = placed_more home b c made old.envs.told f at_b in
    let x = row_node made row in
    record {
      told = t made at_c;
      signatures = all_push IsSignature as_signature (IsSignatureOf home) d.items made old.signatures new.signatures x
          signature (more IsSignature as_signature (IsSignatureOf home) (λ z. z) old.signatures h.signatures)
          (place_more IsSignature as_signature (IsSignatureOf home x) (λ z. z) c d signature g
          (place_more IsSignature as_signature (IsSignatureOf home x) (λ z. z) b c signature f (s home made h.told.envs)))
          m;
      functors = all_push IsFunctor as_functor (IsFunctorOf home) d.items made old.functors new.functors x functor
          (more IsFunctor as_functor (IsFunctorOf home) (λ z. z) old.functors h.functors)
          (place_more IsFunctor as_functor (IsFunctorOf home x) (λ z. z) c d functor g (k home made at_b.envs)) n;
    }
  where
    more : {A : Type 0} (Kind : Item → Type 0) (read : Item → A) (Is : Node → A → Type 0) → Never Kind
        → (told : List (Option ℕ)) → AreAllPlaced Kind read Is a.items made told
        → AreAllPlaced Kind read Is d.items made told
    more Kind read Is none told all =
        all_more Kind read Is none c d made told g
        (all_more Kind read Is none b c made told f (all_more Kind read Is none a b made told e all))

-- ---- what is asked

pub bound_more : (home : List ℕ) (a b : Graph) (rows : BinderRows) → Extends a b → HaveBound home a.items rows
    → HaveBound home b.items rows
bound_more home a b rows e h = record {
  made = h.made;
  bound = record {
    told = placed_more home a b h.made rows.envs.told e h.bound.told;
    signatures = all_more IsSignature as_signature (IsSignatureOf home) (λ z. z) a b h.made rows.signatures e
        h.bound.signatures;
    functors = all_more IsFunctor as_functor (IsFunctorOf home) (λ z. z) a b h.made rows.functors e h.bound.functors;
  };
  values = values_kept rows.envs.told.entries.schemes a b rows.envs.values e h.values;
}

pub envs_have : (home : List ℕ) (items : List Item) (rows : BinderRows) → HaveBound home items rows
    → HaveEnvs home items rows.envs.told.envs
envs_have home items rows h = record { made = h.made; placed = h.bound.told.envs }

pub places_have : (home : List ℕ) (items : List Item) (rows : BinderRows) → HaveBound home items rows
    → HavePlaces home items rows.envs.told rows.envs.values
places_have home items rows h = record { made = h.made; placed = h.bound.told; values = h.values }
