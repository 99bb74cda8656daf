-- The written type variables that a `val` binds, one after another, and the scope with them.
use Rattle.std.proofs.Common.{◌≡◌, ℕ, ◌+◌, ◌<◌, ◌≤◌, List, [], ◌∷◌, ◌++◌, length, refl, sym, ap, ap₂, ◌∙◌, subst, arith, Some, Bool, true, false, ◌||◌, cond}
use Rattle.std.specs.Prelude.{Err}
use Rattle.std.specs.Option.{is_some}
use Rattle.std.specs.Cmp.Lexicographic.{nat_list_eq_equiv, same_text as same_bytes}
use Rattle.cm_base.specs.declared.fault.Fault.{Fault}
use Rattle.sml_trees.specs.declared.name.Name.{Name}
use Rattle.semantic_objects.specs.declared.name.TyId.{TyId}
use Rattle.semantic_objects.specs.Environments.{Env, modified_by}
use Rattle.semantic_objects.specs.Symbols.{same_text}
use Rattle.semantic_objects.proofs.Same.{text_is, text_same}
use Rattle.unification.specs.Types.{Ty, State}
use Rattle.unification.specs.Instances.{with_variable}
use Rattle.type_nodes.specs.Tables.{Table, state}
use Rattle.sml_modules.specs.Items.{map_rows}
use Rattle.sml_modules.specs.Graphs.{Graph}
use Rattle.name_trails.specs.Trails.{Rows, same}
use Rattle.bare_phrases.specs.Phrases.{Rules}
use Rattle.static_semantics.specs.BasicTypes.{is_equality_variable}
use Rattle.static_semantics.specs.Inferring.{Progress, Scope, Answer, ◌>>=◌, gives, named, is_named, with_types}
use Rattle.static_semantics.specs.TypeInference.{listed, new_rigid, as_written}
use Rattle.static_semantics.specs.WrittenVariables.{written_in}
use Rattle.static_semantics.specs.CoreInference.{implicit, own_variables}
use Rattle.core_scopes.specs.declared.made.Made.{Made}
use Rattle.core_scopes.specs.declared.made.MadeBound.{MadeBound}
use Rattle.core_scopes.specs.Scopes.{Bindings, value_of, seen, written_of, first_entry, AreHeld}
use Rattle.core_scopes.specs.Marks.{Becomes, AddsBare, AddsBound, env_of_made, env_of_bound}
use Rattle.core_scopes.specs.Listed.{bound_rows, scope_rows}
use Rattle.core_scopes.proofs.Scoping.{map_append, held_bare, held_more, bound_is_made}
use Rattle.type_phrases.specs.Inferred.{Answers, KeepsTypes, progress}
use Rattle.type_phrases.proofs.Keeping.{keeps_all, keeps_later}
use Rattle.type_phrases.proofs.Steps.{failed}
use Rattle.type_bindings.specs.Listing.{AreMade}
use Rattle.pattern_elab.specs.declared.own.OwnVariable.{OwnVariable}
use Rattle.pattern_elab.specs.Scopes.{own_entry, variable_of, scope_of, AreVariables, IsEnteredIn}
use Rattle.pattern_elab.proofs.Scoping.{values_later}
use Rattle.value_closing.specs.Under.{IsUnder}
use Rattle.value_closing.specs.OwnVariables.{id_rows, AddsImplicit, EntersOwn}

-- ---- whether a variable is in scope

-- two plain functions say whether two texts are one
texts_alike : (a b : List ℕ) → same_text a b ≡ same b a
texts_alike a b = by_tests (same_text a b) (same b a) refl refl
  where
    by_tests : (c d : Bool) → same_text a b ≡ c → same b a ≡ d → c ≡ d
    by_tests true true e f = refl
    by_tests false false e f = refl
    by_tests true false e f =
        let k : same a a ≡ true = nat_list_eq_equiv.refl a in
        let l : same a a ≡ false = subst (λ z. same z a ≡ false) (sym (text_is a b e)) f in
        absurd (cc)
    by_tests false true e f =
        let k : same_text a a ≡ true = text_same a in
        let l : same_text a a ≡ false = subst (λ z. same_text a z ≡ false) (same_bytes b a (sym f)) e in
        absurd (cc)

pub named_first : (rows : Rows TyId) (name : List ℕ)
    → is_named name (map_rows variable_of rows) ≡ is_some (first_entry rows name)
named_first [] name = refl
named_first (row ∷ rows) name =
    ap (λ (c : Bool). is_some (cond c (Some (variable_of row.1)) (named name (map_rows variable_of rows))))
    (texts_alike name row.0)
    ∙ by_test (same row.0 name) (named_first rows name)
  where
    by_test : (c : Bool) → is_named name (map_rows variable_of rows) ≡ is_some (first_entry rows name)
        → is_some (cond c (Some (variable_of row.1)) (named name (map_rows variable_of rows)))
        ≡ is_some (cond c (Some row.1) (first_entry rows name))
    by_test true h = refl
    by_test false h = h

-- ---- one after another

-- for one more text, and then for others
implicit_where : (c : Bool) (outer : List (List ℕ × Ty)) (text : List ℕ) (texts : List (List ℕ))
    (before : List (List ℕ × ℕ)) (st : Progress) (r : List (List ℕ × ℕ) × Progress)
    → cond c (before, st) (before ++ (text, st.types.next) ∷ [], new_rigid text st) ≡ r
    → cond c (implicit outer texts before st)
    (implicit outer texts (before ++ (text, st.types.next) ∷ []) (new_rigid text st))
    ≡ implicit outer texts r.0 r.1
implicit_where true outer text texts before st r h =
    ap (λ (q : List (List ℕ × ℕ) × Progress). implicit outer texts q.0 q.1) h
implicit_where false outer text texts before st r h =
    ap (λ (q : List (List ℕ × ℕ) × Progress). implicit outer texts q.0 q.1) h

implicit_then : (outer : List (List ℕ × Ty)) (text : List ℕ) (texts : List (List ℕ)) (before : List (List ℕ × ℕ))
    (st : Progress) (r : List (List ℕ × ℕ) × Progress) → implicit outer (text ∷ []) before st ≡ r
    → implicit outer (text ∷ texts) before st ≡ implicit outer texts r.0 r.1
implicit_then outer text texts before st r h =
    implicit_where (is_named text before || is_named text outer) outer text texts before st r h

-- what was made so far, and the texts that are left
pub record AddedSoFar (outer : List (List ℕ × Ty)) (first : Table) (before : Rows ℕ) (texts left : List (List ℕ))
    (now : Table) (rows : Rows ℕ) : Type 0 where
  pub keeps : KeepsTypes first now
  pub made : AreMade now rows
  pub left_is : (g : Graph) → implicit outer texts before (progress first g) ≡ implicit outer left rows (progress now g)

pub added_begin : (outer : List (List ℕ × Ty)) (t : Table) (rows : Rows ℕ) (texts : List (List ℕ)) → AreMade t rows
    → AddedSoFar outer t rows texts texts t rows
added_begin outer t rows texts h = record { keeps = keeps_all t; made = h; left_is = λ g. refl }

pub added_next : (outer : List (List ℕ × Ty)) (first : Table) (before : Rows ℕ) (texts left rest : List (List ℕ))
    (text : List ℕ) (now new : Table) (rows more : Rows ℕ) → AddedSoFar outer first before texts left now rows
    → left ≡ text ∷ rest → AddsImplicit outer (text ∷ []) now rows new more → AreMade new more → KeepsTypes now new
    → AddedSoFar outer first before texts rest new more
added_next outer first before texts left rest text now new rows more s e a m k = record {
  keeps = keeps_later first now new s.keeps k;
  made = m;
  left_is = λ g. s.left_is g
      ∙ ap (λ (z : List (List ℕ)). implicit outer z rows (progress now g)) e
      ∙ implicit_then outer text rest rows (progress now g) (more, progress new g) (a g);
}

pub added_end : (outer : List (List ℕ × Ty)) (first : Table) (before : Rows ℕ) (texts left : List (List ℕ))
    (now : Table) (rows : Rows ℕ) → AddedSoFar outer first before texts left now rows → left ≡ []
    → AddsImplicit outer texts first before now rows
added_end outer first before texts left now rows s e g =
    s.left_is g ∙ ap (λ (z : List (List ℕ)). implicit outer z rows (progress now g)) e

-- ---- one variable

pub known_adds : (outer : List (List ℕ × Ty)) (text : List ℕ) (t : Table) (rows : Rows ℕ)
    → (is_named text rows || is_named text outer) ≡ true → AddsImplicit outer (text ∷ []) t rows t rows
known_adds outer text t rows h g =
    ap (λ (c : Bool). cond c (rows, progress t g)
    (rows ++ (text, (state t).next) ∷ [], new_rigid text (progress t g))) h

pub unknown_adds : (outer : List (List ℕ × Ty)) (text name : List ℕ) (t new : Table) (rows more : Rows ℕ) (n : ℕ)
    → (is_named text rows || is_named text outer) ≡ false → name ≡ text → n ≡ (state t).next
    → state new ≡ with_variable true (is_equality_variable text) (state t) → more ≡ rows ++ (name, n) ∷ []
    → AddsImplicit outer (text ∷ []) t rows new more
unknown_adds outer text name t new rows more n h e f s k g =
    ap (λ (c : Bool). cond c (rows, progress t g)
    (rows ++ (text, (state t).next) ∷ [], new_rigid text (progress t g))) h
    ∙ ap₂ (λ (z : Rows ℕ) (u : State). (z, with_types u (progress t g)))
    (ap₂ (λ (m : List ℕ) (i : ℕ). rows ++ (m, i) ∷ []) (sym e) (sym f) ∙ sym k) (sym s)

made_more : (a b : Table) (rows : Rows ℕ) → length a.births ≤ length b.births → AreMade a rows → AreMade b rows
made_more a b [] h k = tt
made_more a b (row ∷ rows) h k = let i = k.0 in (omega (arith, h, i), made_more a b rows h k.1)

made_snoc : (t : Table) (rows : Rows ℕ) (name : List ℕ) (n : ℕ) → AreMade t rows → n < length t.births
    → AreMade t (rows ++ (name, n) ∷ [])
made_snoc t [] name n h k = (k, tt)
made_snoc t (row ∷ rows) name n h k = (h.0, made_snoc t rows name n h.1 k)

pub one_made : (a b : Table) (rows : Rows ℕ) → length b.births ≡ length a.births + 1 → AreMade a rows → AreMade b rows
one_made a b rows h k = made_more a b rows (omega (arith, h)) k

pub one_more_made : (a b : Table) (rows more : Rows ℕ) (name : List ℕ) (n : ℕ)
    → length b.births ≡ length a.births + 1 → n ≡ length a.births → more ≡ rows ++ (name, n) ∷ [] → AreMade a rows
    → AreMade b more
one_more_made a b rows more name n h e f k =
    subst (AreMade b) (sym f) (made_snoc b rows name n (one_made a b rows h k) (omega (arith, h, e)))

-- ---- the scope with them

ids_are : (own : Rows ℕ) → map_rows variable_of (id_rows own) ≡ as_written own
ids_are [] = refl
ids_are (row ∷ rows) = ap (λ (z : List (List ℕ × Ty)). (row.0, Ty.Var row.1) ∷ z) (ids_are rows)

both_variables : (t : Table) (first second : Rows TyId) → AreVariables t first → AreVariables t second
    → AreVariables t (first ++ second)
both_variables t [] second h k = k
both_variables t (row ∷ rows) second h k = (h.0, both_variables t rows second h.1 k)

own_variables_are : (t : Table) (own : Rows ℕ) → AreMade t own → AreVariables t (id_rows own)
own_variables_are t [] h = tt
own_variables_are t (row ∷ rows) h = (h.0, own_variables_are t rows h.1)

scope_made : (g : Graph) (old new : Bindings OwnVariable) (rows : Rows TyId)
    → seen g own_entry new ≡ seen g own_entry old → written_of new ≡ rows
    → scope_of g new ≡ record { env = seen g own_entry old; written = map_rows variable_of rows; home = g.home }
scope_made g old new rows e f =
    ap₂ (λ (z : Env) (w : Rows TyId). record { env = z; written = map_rows variable_of w; home = g.home }) e f

pub entered : (g : Graph) (own : Rows ℕ) (rows : Rows TyId) (old new : Bindings OwnVariable) → rows ≡ id_rows own
    → AddsBare old new → Becomes g old new (λ read. seen g read old) (rows ++ written_of old) → EntersOwn g own old new
entered g own rows old new e bare b =
    let written : written_of new ≡ id_rows own ++ written_of old =
    b.written ∙ ap (λ (z : Rows TyId). z ++ written_of old) e in
    record {
      seen = scope_made g old new (id_rows own ++ written_of old) (b.seen own_entry) written
          ∙ ap (λ (w : List (List ℕ × Ty)). record { env = seen g own_entry old; written = w; home = g.home })
          (map_append variable_of (id_rows own) (written_of old)
          ∙ ap (λ (z : List (List ℕ × Ty)). z ++ map_rows variable_of (written_of old)) (ids_are own));
      front = b.front;
      there = λ t h k. record {
        there = b.there k.there;
        written = subst (AreVariables t) (sym written)
            (both_variables t (id_rows own) (written_of old) (own_variables_are t own h) k.written);
        entered = held_bare (IsEnteredIn t) old new (λ x. tt) bare k.entered;
      };
    }

-- ---- what a declaration makes

-- what was made is bound with what the table has of it
env_same : (g : Graph) (made : Made OwnVariable) (more : MadeBound OwnVariable) → more.structures ≡ made.structures
    → more.types ≡ made.types → map_rows value_of (bound_rows more.values) ≡ scope_rows made.values
    → env_of_bound g own_entry more ≡ env_of_made g own_entry made
env_same g made more ss ts vs = bound_is_made g own_entry made more ss ts vs

pub entered_made : (g : Graph) (since : Table) (old new : Bindings OwnVariable) (made : Made OwnVariable)
    (more : MadeBound OwnVariable) → more.structures ≡ made.structures → more.types ≡ made.types
    → map_rows value_of (bound_rows more.values) ≡ scope_rows made.values
    → AreHeld (IsEnteredIn since) (bound_rows more.values) → AddsBound (bound_rows more.values) old new
    → Becomes g old new (λ read. modified_by (seen g read old) (env_of_bound g read more)) (written_of old)
    → IsUnder g since (env_of_made g own_entry made) old new
entered_made g since old new made more ss ts vs held adds b = record {
  seen = ap₂ (λ (z : Env) (w : Rows TyId). record { env = z; written = map_rows variable_of w; home = g.home })
      (b.seen own_entry ∙ ap (modified_by (seen g own_entry old)) (env_same g made more ss ts vs)) b.written;
  front = b.front;
  there = λ t keeps k. record {
    there = b.there k.there;
    written = subst (AreVariables t) (sym b.written) k.written;
    entered = held_more (IsEnteredIn t) old new (bound_rows more.values) adds
        (values_later since t (bound_rows more.values) keeps held) k.entered;
  };
}

-- ---- all together

pub own_failed : (sc : Scope) (tyvars : List Name) (rules recs : Rules) (st : Progress)
    (read other : Rows ℕ → Rows ℕ × Progress) (e : Fault) → Answers (listed sc tyvars [] st) read (Err e)
    → Answers (own_variables sc tyvars rules recs st) other (Err e)
own_failed sc tyvars rules recs st read other e h =
    failed (listed sc tyvars [] st) (λ r. gives (implicit sc.written (written_in rules recs) r.0 r.1)) read other e h

pub own_made : (g : Graph) (sc : Scope) (tyvars : List Name) (rules recs : Rules) (st : Progress)
    (texts : List (List ℕ)) (mid new : Table) (rows own : Rows ℕ)
    → listed sc tyvars [] st ≡ gives (rows, progress mid g) → texts ≡ written_in rules recs
    → AddsImplicit sc.written texts mid rows new own
    → own_variables sc tyvars rules recs st ≡ gives (own, progress new g)
own_made g sc tyvars rules recs st texts mid new rows own h e a =
    ap (λ (m : Answer (Rows ℕ × Progress)). m
    >>= λ r. gives (implicit sc.written (written_in rules recs) r.0 r.1)) h
    ∙ ap gives (ap (λ (z : List (List ℕ)). implicit sc.written z rows (progress mid g)) (sym e) ∙ a g)
