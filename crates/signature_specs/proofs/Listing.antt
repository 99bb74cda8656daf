-- Lists of type variables in a table, and types under them.
use Rattle.std.proofs.Common.{◌≡◌, ℕ, ◌+◌, ◌≤◌, List, [], ◌∷◌, ◌++◌, length, refl, sym, ap, ap₂, ◌∙◌, subst, Bool, true, false, ◌||◌, cond, zero, suc, arith}
use Rattle.std.proofs.lemmas.List.{append_assoc, append-nil, map-append}
use Rattle.sml_trees.specs.declared.name.Name.{Name}
use Rattle.semantic_objects.specs.declared.name.TyId.{TyId}
use Rattle.semantic_objects.specs.declared.entry.ValueEntry.{ValueEntry}
use Rattle.semantic_objects.specs.Environments.{Env, empty_env}
use Rattle.unification.specs.Types.{Ty, Substitution}
use Rattle.type_nodes.specs.Tables.{Table, state, type_of}
use Rattle.type_nodes.specs.Keeping.{IsKept}
use Rattle.sml_modules.specs.Items.{map_rows}
use Rattle.sml_modules.specs.Graphs.{Graph}
use Rattle.name_trails.specs.Trails.{Rows}
use Rattle.static_semantics.specs.Inferring.{Progress, Scope, with_written_alone, ◌>>=◌, gives, refuses_where, name_at, is_named}
use Rattle.static_semantics.specs.TypeInference.{new_rigid, listed, numbers, as_written}
use Rattle.static_semantics.specs.DatatypeInference.{counted}
use Rattle.static_semantics.specs.CoreInference.{implicit}
use Rattle.core_scopes.specs.Scopes.{Bindings, seen, written_of, IsScopeOf}
use Rattle.core_scopes.specs.Marks.{Becomes}
use Rattle.type_phrases.specs.Inferred.{HaveRows, IsScopeOver, progress, scope_in}
use Rattle.type_bindings.specs.Listing.{AreMade}
use Rattle.listed_types.specs.Firm.{AreAlone}
use Rattle.signature_specs.specs.Variables.{texts_of, row_ids, AreNumbered, IsListIn, IsListedFrom}

-- ---- new variables

-- what a list does to a state, and which numbers its variables have
record ListFacts (before : Rows ℕ) (names : List Name) (st : Progress) (rows : Rows ℕ) (u : Progress) : Type 0 where
  numbered : numbers rows ≡ numbers before ++ counted (length names) st.types.next
  stands : u.types.stands ≡ st.types.stands
  also : implicit [] (texts_of names) before st ≡ (rows, u)

no_more : (b : Bool) → (b || false) ≡ b
no_more true = refl
no_more false = refl

list_facts : (inner : Scope) (names : List Name) (before : Rows ℕ) (st : Progress) (rows : Rows ℕ) (u : Progress)
    → listed inner names before st ≡ gives (rows, u) → ListFacts before names st rows u
list_facts inner [] before st rows u e =
    let p : (before, st) ≡ (rows, u) = cc in
    let r : before ≡ rows = ap (λ (z : Rows ℕ × Progress). z.0) p in
    let s : st ≡ u = ap (λ (z : Rows ℕ × Progress). z.1) p in
    record {
      numbered = ap numbers (sym r) ∙ sym (append-nil (numbers before));
      stands = ap (λ (p : Progress). p.types.stands) (sym s);
      also = p;
    }
list_facts inner (name ∷ names) before st rows u e = by_test (is_named name.text before) refl e
    (λ f. list_facts inner names (before ++ (name.text, st.types.next) ∷ []) (new_rigid name.text st) rows u f)
  where
    more : is_named name.text before ≡ false
        → ListFacts (before ++ (name.text, st.types.next) ∷ []) names (new_rigid name.text st) rows u
        → ListFacts before (name ∷ names) st rows u
    more free f = record {
      numbered = f.numbered
          ∙ ap₂ (λ ns k. ns ++ counted (length names) k)
          (map-append (λ (z : List ℕ × ℕ). z.1) before ((name.text, st.types.next) ∷ []))
          (let k : st.types.next + 1 ≡ suc st.types.next = omega arith in k)
          ∙ append_assoc (numbers before) (st.types.next ∷ []) (counted (length names) (suc st.types.next));
      stands = f.stands;
      also = ap (λ c. cond c (implicit [] (texts_of names) before st)
          (implicit [] (texts_of names) (before ++ (name.text, st.types.next) ∷ []) (new_rigid name.text st)))
          (no_more (is_named name.text before) ∙ free)
          ∙ f.also;
    }

    by_test : (b : Bool) → is_named name.text before ≡ b
        → (refuses_where b 40 inner (name_at name)
        >>= λ v. listed inner names (before ++ (name.text, st.types.next) ∷ []) (new_rigid name.text st))
        ≡ gives (rows, u)
        → (listed inner names (before ++ (name.text, st.types.next) ∷ []) (new_rigid name.text st) ≡ gives (rows, u)
        → ListFacts (before ++ (name.text, st.types.next) ∷ []) names (new_rigid name.text st) rows u)
        → ListFacts before (name ∷ names) st rows u
    by_test true h f rest = absurd (cc)
    by_test false h f rest = more h (rest f)

in_list : (t : Table) (rows : Rows ℕ) (k first : ℕ) → numbers rows ≡ counted k first → AreMade t rows
    → ((n : ℕ) → first ≤ n → (state t).stands n ≡ Ty.Var n) → AreNumbered t first rows
in_list t [] k first e h s = tt
in_list t (row ∷ rows) zero first e h s = absurd (cc)
in_list t (row ∷ rows) (suc k) first e h s =
    let head : row.1 ≡ first = cc in
    let tail : numbers rows ≡ counted k (suc first) = cc in
    (head, h.0, s row.1 (omega (arith, head)), in_list t rows k (suc first) tail h.1 (λ n l. s n (omega (arith, l))))

pub list_made : (g : Graph) (old new : Table) (names written : List Name) (rows : Rows ℕ) → IsKept old
    → written ≡ names → AreMade new rows
    → ((inner : Scope) → inner.home ≡ g.home → listed inner written [] (progress old g) ≡ gives (rows, progress new g))
    → IsListedFrom g old new names rows
list_made g old new names written rows kept same made h =
    let inner : Scope = record { env = empty_env; written = []; home = g.home } in
    let f : ListFacts [] written (progress old g) rows (progress new g) =
    list_facts inner written [] (progress old g) rows (progress new g) (h inner refl) in
    subst (λ ns. IsListedFrom g old new ns rows) same (record {
      is = f.also;
      there = record {
        first = (state old).next;
        numbered = in_list new rows (length written) (state old).next f.numbered made
            (λ n l. ap (λ (s : Substitution). s n) f.stands ∙ kept.fit.beyond n l);
      };
    })

-- ---- the first of them

pub first_some : (t : Table) (list rest : Rows ℕ) (row : List ℕ × ℕ) → list ≡ row ∷ rest → IsListIn t list
    → AreNumbered t row.1 list
first_some t list rest row e h =
    subst (AreNumbered t row.1) (sym e)
    (let k : AreNumbered t h.first (row ∷ rest) = subst (AreNumbered t h.first) e h.numbered in
    subst (λ n. AreNumbered t n (row ∷ rest)) (sym k.0) k)

pub first_none : (t : Table) (list : Rows ℕ) → list ≡ [] → AreNumbered t 0 list
first_none t list e = subst (AreNumbered t 0) (sym e) tt

pub numbers_are : (t : Table) (list : Rows ℕ) (first : ℕ) → AreNumbered t first list
    → numbers list ≡ counted (length list) first
numbers_are t [] first h = refl
numbers_are t (row ∷ rows) first h = ap₂ (λ n ns. n ∷ ns) h.0 (numbers_are t rows (suc first) h.3)

-- ---- under a list

list_have : (t : Table) (rows : Rows ℕ) (first : ℕ) → AreNumbered t first rows → HaveRows t (row_ids rows)
list_have t [] first h = tt
list_have t (row ∷ rows) first h = (h.1, list_have t rows (suc first) h.3)

list_alone : (t : Table) (rows : Rows ℕ) (first : ℕ) → AreNumbered t first rows → AreAlone t (row_ids rows)
list_alone t [] first h = tt
list_alone t (row ∷ rows) first h = (h.2, list_alone t rows (suc first) h.3)

list_written : (t : Table) (rows : Rows ℕ) → map_rows (type_of t) (row_ids rows) ≡ as_written rows
list_written t [] = refl
list_written t (row ∷ rows) = ap (λ ts. (row.0, Ty.Var row.1) ∷ ts) (list_written t rows)

module _ {V : Type 0} (g : Graph) (t : Table) (old new : Bindings V) (list : Rows ℕ) (written : Rows TyId)
    (same : written ≡ row_ids list)
    (becomes : Becomes g old new (λ read. seen g read old) written) where
  pub under_over : IsScopeOf g old → IsListIn t list → IsScopeOver g t new
  under_over h k = record {
    there = becomes.there h;
    written = subst (HaveRows t) (sym (becomes.written ∙ same)) (list_have t list k.first k.numbered);
  }

  pub under_alone : IsListIn t list → AreAlone t (written_of new)
  under_alone k = subst (AreAlone t) (sym (becomes.written ∙ same)) (list_alone t list k.first k.numbered)

  pub under_scope : (u : Table) (read : V → ValueEntry)
      → scope_in g t read new ≡ with_written_alone (as_written list) (scope_in g u read old)
  under_scope u read = ap₂ (λ (env : Env) (rows : List (List ℕ × Ty)).
      (let inner : Scope = record { env = env; written = rows; home = g.home } in inner))
      (becomes.seen read)
      (ap (map_rows (type_of t)) (becomes.written ∙ same) ∙ list_written t list)
