-- The variables of a list: their numbers, and what stands for them; and a scope in which no others are written.
use Rattle.std.proofs.Common.{◌≡◌, ℕ, ◌+◌, ◌≤◌, List, [], ◌∷◌, ◌++◌, length, refl, sym, ap, ap₂, ◌∙◌, subst, Bool, true, false, zero, suc, arith}
use Rattle.std.specs.Prelude.{Result, Err, IsErrAnd}
use Rattle.std.proofs.lemmas.List.{append_assoc, append-nil, map-append, length-map}
use Rattle.cm_base.specs.declared.fault.Fault.{Fault}
use Rattle.sml_trees.specs.declared.name.Name.{Name}
use Rattle.semantic_objects.specs.declared.name.TyId.{TyId}
use Rattle.semantic_objects.specs.declared.entry.TypeFn.{TypeFn}
use Rattle.semantic_objects.specs.declared.entry.ValueEntry.{ValueEntry}
use Rattle.semantic_objects.specs.Environments.{Env, empty_env}
use Rattle.semantic_objects.specs.Trees.{Tree}
use Rattle.unification.specs.Types.{Ty, Substitution}
use Rattle.unification.specs.Closing.{closed_over}
use Rattle.type_nodes.specs.Tables.{Table, state, type_of}
use Rattle.type_nodes.specs.Keeping.{IsKept}
use Rattle.bare_phrases.specs.Phrases.{TyPhrase}
use Rattle.sml_modules.specs.Items.{map_rows}
use Rattle.sml_modules.specs.Graphs.{Graph}
use Rattle.name_trails.specs.Trails.{Rows}
use Rattle.static_semantics.specs.Inferring.{Progress, Scope, with_written_alone, Answer, ◌>>=◌, gives, refuses_where, name_at, is_named}
use Rattle.static_semantics.specs.TypeInference.{infer_ty, new_rigid, listed, numbers, as_written, type_function}
use Rattle.static_semantics.specs.DatatypeInference.{counted}
use Rattle.core_scopes.specs.Scopes.{Bindings, seen, written_of, IsScopeOf}
use Rattle.core_scopes.specs.Marks.{Becomes}
use Rattle.type_phrases.specs.Inferred.{Answers, HaveRows, IsScopeOver, progress, scope_in}
use Rattle.type_phrases.proofs.PartsRead.{passed_on}
use Rattle.type_phrases.proofs.Steps.{failed}
use Rattle.type_bindings.specs.Listing.{AreMade}
use Rattle.listed_types.specs.declared.listed.ListedType.{ListedType}
use Rattle.listed_types.specs.Firm.{AreAlone}
use Rattle.type_declarations.specs.Binding.{row_ids, AreOwn, IsListIn, infer_closed, infer_function}

-- ---- numbers

length_counted : (k n : ℕ) → length (counted k n) ≡ k
length_counted zero n = refl
length_counted (suc k) n = ap suc (length_counted k (suc n))

length_numbers : (rows : Rows ℕ) → length (numbers rows) ≡ length rows
length_numbers rows = length-map rows (λ (row : List ℕ × ℕ). row.1)

-- what names do to a state, and which numbers their variables have
record Lists (before : Rows ℕ) (names : List Name) (st : Progress) (rows : Rows ℕ) (after : Progress) : Type 0 where
  numbered : numbers rows ≡ numbers before ++ counted (length names) st.types.next
  stands : after.types.stands ≡ st.types.stands

lists : (inner : Scope) (names : List Name) (before : Rows ℕ) (st : Progress) (rows : Rows ℕ) (after : Progress)
    → listed inner names before st ≡ gives (rows, after) → Lists before names st rows after
lists inner [] before st rows after e =
    let both : (before, st) ≡ (rows, after) = cc in
    let same : before ≡ rows = ap (λ (z : Rows ℕ × Progress). z.0) both in
    let still : st ≡ after = ap (λ (z : Rows ℕ × Progress). z.1) both in
    record {
      numbered = ap numbers (sym same) ∙ sym (append-nil (numbers before));
      stands = ap (λ (p : Progress). p.types.stands) (sym still);
    }
lists inner (name ∷ names) before st rows after e = by_test (is_named name.text before) e
    (λ f. lists inner names (before ++ (name.text, st.types.next) ∷ []) (new_rigid name.text st) rows after f)
  where
    more : Lists (before ++ (name.text, st.types.next) ∷ []) names (new_rigid name.text st) rows after
        → Lists before (name ∷ names) st rows after
    more f = record {
      numbered = f.numbered
          ∙ ap₂ (λ ns k. ns ++ counted (length names) k)
          (map-append (λ (row : List ℕ × ℕ). row.1) before ((name.text, st.types.next) ∷ []))
          (let k : st.types.next + 1 ≡ suc st.types.next = omega arith in k)
          ∙ append_assoc (numbers before) (st.types.next ∷ []) (counted (length names) (suc st.types.next));
      stands = f.stands;
    }

    by_test : (b : Bool)
        → (refuses_where b 40 inner (name_at name)
        >>= λ u. listed inner names (before ++ (name.text, st.types.next) ∷ []) (new_rigid name.text st))
        ≡ gives (rows, after)
        → (listed inner names (before ++ (name.text, st.types.next) ∷ []) (new_rigid name.text st) ≡ gives (rows, after)
        → Lists (before ++ (name.text, st.types.next) ∷ []) names (new_rigid name.text st) rows after)
        → Lists before (name ∷ names) st rows after
    by_test true f rest = absurd (cc)
    by_test false f rest = more (rest f)

own_from : (t : Table) (rows : Rows ℕ) (k first : ℕ) → numbers rows ≡ counted k first → AreMade t rows
    → ((n : ℕ) → first ≤ n → (state t).stands n ≡ Ty.Var n) → AreOwn t rows
own_from t [] k first e h s = tt
own_from t (row ∷ rows) zero first e h s = absurd (cc)
own_from t (row ∷ rows) (suc k) first e h s =
    let head : row.1 ≡ first = cc in
    let tail : numbers rows ≡ counted k (suc first) = cc in
    (h.0, s row.1 (omega (arith, head)), own_from t rows k (suc first) tail h.1 (λ n l. s n (omega (arith, l))))

-- a list that was made in a table
pub list_is_in : (g : Graph) (old new : Table) (names : List Name) (rows : Rows ℕ) → IsKept old → AreMade new rows
    → ((inner : Scope) → inner.home ≡ g.home
    → listed inner names [] (progress old g) ≡ gives (rows, progress new g))
    → IsListIn new rows
list_is_in g old new names rows kept made h =
    let inner : Scope = record { env = empty_env; written = []; home = g.home } in
    let f : Lists [] names (progress old g) rows (progress new g) =
    lists inner names [] (progress old g) rows (progress new g) (h inner refl) in
    let count : length names ≡ length rows =
    sym (length_counted (length names) (state old).next) ∙ ap length (sym f.numbered) ∙ length_numbers rows in
    record {
      own = own_from new rows (length names) (state old).next f.numbered made
          (λ n l. ap (λ (s : Substitution). s n) f.stands ∙ kept.fit.beyond n l);
      first = (state old).next;
      numbered = f.numbered ∙ ap (λ k. counted k (state old).next) count;
    }

-- ---- a scope in which no others are written

list_have : (t : Table) (rows : Rows ℕ) → AreOwn t rows → HaveRows t (row_ids rows)
list_have t [] h = tt
list_have t (row ∷ rows) h = (h.0, list_have t rows h.2)

list_alone : (t : Table) (rows : Rows ℕ) → AreOwn t rows → AreAlone t (row_ids rows)
list_alone t [] h = tt
list_alone t (row ∷ rows) h = (h.1, list_alone t rows h.2)

list_written : (t : Table) (rows : Rows ℕ) → map_rows (type_of t) (row_ids rows) ≡ as_written rows
list_written t [] = refl
list_written t (row ∷ rows) = ap (λ ts. (row.0, Ty.Var row.1) ∷ ts) (list_written t rows)

module _ {V : Type 0} (g : Graph) (t : Table) (old new : Bindings V) (list : Rows ℕ) (written : Rows TyId)
    (same : written ≡ row_ids list)
    (becomes : Becomes g old new (λ read. seen g read old) written) where
  pub under_over : IsScopeOf g old → IsListIn t list → IsScopeOver g t new
  under_over h k = record {
    there = becomes.there h;
    written = subst (HaveRows t) (sym (becomes.written ∙ same)) (list_have t list k.own);
  }

  pub under_alone : IsListIn t list → AreAlone t (written_of new)
  under_alone k = subst (AreAlone t) (sym (becomes.written ∙ same)) (list_alone t list k.own)

  under_scope : (u : Table) (read : V → ValueEntry)
      → scope_in g t read new ≡ with_written_alone (as_written list) (scope_in g u read old)
  under_scope u read = ap₂ (λ (env : Env) (rows : List (List ℕ × Ty)).
      (let inner : Scope = record { env = env; written = rows; home = g.home } in inner))
      (becomes.seen read)
      (ap (map_rows (type_of t)) (becomes.written ∙ same) ∙ list_written t list)

  pub under_function : (u : Table) (read : V → ValueEntry) (phrase : TyPhrase) (result : Result TypeFn Fault)
      → Answers (infer_closed (scope_in g t read new) list phrase) (λ function. function) result
      → Answers (infer_function (scope_in g u read old) list phrase) (λ function. function) result
  under_function u read phrase result h =
      subst (λ (inner : Scope). Answers (infer_closed inner list phrase) (λ function. function) result)
      (under_scope u read) h

-- a type that is closed over a list
pub function_made : (sc : Scope) (list : Rows ℕ) (phrase : TyPhrase) (ty : Ty) (tree : Tree) (arity count first : ℕ)
    → infer_ty sc phrase ≡ gives ty → tree ≡ closed_over (counted count first) ty → count ≡ length list
    → arity ≡ length list → numbers list ≡ counted (length list) first
    → infer_closed sc list phrase ≡ gives (record { arity = arity; body = tree })
function_made sc list phrase ty tree arity count first infers closed counts takes numbered =
    ap (λ (m : Answer Ty). m >>= λ z. gives (type_function (numbers list) z)) infers
    ∙ ap₂ (λ (n : ℕ) (body : Tree). gives (let made : TypeFn = record { arity = n; body = body } in made))
    (length_numbers list ∙ sym takes)
    (ap (λ ns. closed_over ns ty) (numbered ∙ ap (λ k. counted k first) (sym counts)) ∙ sym closed)

pub function_refused : (sc : Scope) (list : Rows ℕ) (phrase : TyPhrase) (t : Table) (e : Fault)
    (r : Result TypeFn Fault) → IsErrAnd r (λ f. f ≡ e)
    → Answers (infer_ty sc phrase) (λ (made : ListedType). type_of t made.id) (Err e)
    → Answers (infer_closed sc list phrase) (λ function. function) r
function_refused sc list phrase t e r k h =
    passed_on (λ (z : Result TypeFn Fault). Answers (infer_closed sc list phrase) (λ function. function) z) r e k
    (failed (infer_ty sc phrase) (λ ty. gives (type_function (numbers list) ty))
    (λ (made : ListedType). type_of t made.id) (λ (function : TypeFn). function) e h)
