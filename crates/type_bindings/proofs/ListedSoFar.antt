-- Lists of type variables, one after another.
use Rattle.std.proofs.Common.{◌≡◌, ℕ, ◌+◌, ◌<◌, ◌≤◌, List, [], ◌∷◌, ◌++◌, length, refl, sym, ap, ◌∙◌, subst, Option, Some, None, Bool, true, false, ◌||◌, cond, arith}
use Rattle.std.specs.Prelude.{Result, Ok, Err, IsErrAnd}
use Rattle.std.specs.Option.{is_some}
use Rattle.std.specs.Cmp.Lexicographic.{nat_list_eq_equiv, same_text as same_bytes}
use Rattle.cm_base.specs.declared.fault.Fault.{Fault}
use Rattle.sml_trees.specs.declared.name.Name.{Name}
use Rattle.semantic_objects.specs.Symbols.{same_text}
use Rattle.semantic_objects.proofs.Same.{text_is, text_same}
use Rattle.unification.specs.Types.{Ty, State}
use Rattle.unification.specs.Instances.{with_variable}
use Rattle.type_nodes.specs.declared.entry.Entry.{Entry}
use Rattle.type_nodes.specs.declared.entry.Entry.TheVariants as entry
use Rattle.type_nodes.specs.Nodes.{born, made}
use Rattle.type_nodes.specs.Tables.{Table, state, after_entry, after_entries}
use Rattle.type_schemes.specs.Instances.{Extends}
use Rattle.sml_modules.specs.Graphs.{Graph}
use Rattle.name_trails.specs.Trails.{Rows, same, entry_after, last_entry}
use Rattle.static_semantics.specs.BasicTypes.{is_equality_variable}
use Rattle.static_semantics.specs.Inferring.{Progress, Scope, Answer, ◌>>=◌, gives, refuses_where, name_at, named, is_named, with_types}
use Rattle.static_semantics.specs.TypeInference.{listed, new_rigid}
use Rattle.type_phrases.specs.Inferred.{Answers, KeepsTypes, progress}
use Rattle.type_phrases.proofs.Keeping.{keeps_all, keeps_later, keeps_extended}
use Rattle.type_phrases.proofs.Steps.{failed}
use Rattle.type_bindings.specs.Listing.{AreMade}

-- ---- numbers of variables

next_after : (types : List Ty) (s : State) (es : List Entry) → (after_entries types s es).next ≡ s.next
next_after types s [] = refl
next_after types s (entry.Bound v a ∷ es) = next_after types (after_entry types s (entry.Bound v a)) es
next_after types s (entry.Marked v ∷ es) = next_after types (after_entry types s (entry.Marked v)) es

next_is : (t : Table) → (state t).next ≡ length t.births
next_is t = next_after (made t.nodes) (born t.births) t.trail

made_more : (a b : Table) (rows : Rows ℕ) → length a.births ≤ length b.births → AreMade a rows → AreMade b rows
made_more a b [] h k = tt
made_more a b (row ∷ rows) h k = let i = k.0 in (omega (arith, h, i), made_more a b rows h k.1)

made_snoc : (t : Table) (rows : Rows ℕ) (name : List ℕ) (n : ℕ) → AreMade t rows → n < length t.births
    → AreMade t (rows ++ (name, n) ∷ [])
made_snoc t [] name n h k = (k, tt)
made_snoc t (row ∷ rows) name n h k = (h.0, made_snoc t rows name n h.1 k)

-- ---- whether a variable stands before

texts_alike : (a b : List ℕ) → same_text a b ≡ same b a
texts_alike a b = by_tests (same_text a b) (same b a) refl refl
  where
    by_tests : (c d : Bool) → same_text a b ≡ c → same b a ≡ d → c ≡ d
    by_tests true true e f = refl
    by_tests false false e f = refl
    by_tests true false e f =
        let k : same a a ≡ true = nat_list_eq_equiv.refl a in
        let l : same a a ≡ false = subst (λ z. same z a ≡ false) (sym (text_is a b e)) f in
        absurd (cc)
    by_tests false true e f =
        let k : same_text a a ≡ true = text_same a in
        let l : same_text a a ≡ false = subst (λ z. same_text a z ≡ false) (same_bytes b a (sym f)) e in
        absurd (cc)

or_false : (b : Bool) → b ≡ (b || false)
or_false true = refl
or_false false = refl

or_true : (b : Bool) → true ≡ (b || true)
or_true true = refl
or_true false = refl

found_either : {A : Type 0} (b : Bool) (x : A) (held o : Option A)
    → (is_some (cond b (Some x) held) || is_some o) ≡ (is_some held || is_some (cond b (Some x) o))
found_either true x held o = or_true (is_some held)
found_either false x held o = refl

found_in_rows : {A : Type 0} (held : Option A) (rows : Rows A) (name : List ℕ)
    → is_some (entry_after held rows name) ≡ (is_some held || is_named name rows)
found_in_rows held [] name = or_false (is_some held)
found_in_rows {A} held (row ∷ rows) name =
    found_in_rows (cond (same row.0 name) (Some row.1) held) rows name
    ∙ found_either (same row.0 name) row.1 held (named name rows)
    ∙ ap (λ b. is_some held || is_some (cond b (Some row.1) (named name rows))) (sym (texts_alike name row.0))

pub named_before : {A : Type 0} (rows : Rows A) (name : List ℕ) → is_named name rows ≡ is_some (last_entry rows name)
unfolding last_entry
named_before rows name = sym (found_in_rows None rows name)

-- ---- one after another

-- the variables of the first names
pub record ListedSoFar (g : Graph) (first : Table) (names left : List Name) (now : Table) (rows : Rows ℕ) : Type 0 where
  pub keeps : KeepsTypes first now
  pub made : AreMade now rows
  pub left_is : (inner : Scope) → inner.home ≡ g.home
      → listed inner names [] (progress first g) ≡ listed inner left rows (progress now g)

pub listed_none : (g : Graph) (t : Table) (names : List Name) (rows : Rows ℕ) → rows ≡ []
    → ListedSoFar g t names names t rows
listed_none g t names rows e = subst (ListedSoFar g t names names t) (sym e) (record {
  keeps = keeps_all t;
  made = tt;
  left_is = λ inner h. refl;
})

abbrev pub IsChecked : Graph → Rows ℕ → Name → Result (Unit {0}) Fault → Type 0
IsChecked g rows x result = (inner : Scope) → inner.home ≡ g.home
    → Answers (refuses_where (is_named x.text rows) 40 inner (name_at x)) (λ u. tt) result

-- the names that are left, from the first of them on
listed_first : (inner : Scope) (left rest : List Name) (x : Name) (rows : Rows ℕ) (st : Progress) → left ≡ x ∷ rest
    → listed inner left rows st
    ≡ (refuses_where (is_named x.text rows) 40 inner (name_at x)
    >>= λ u. listed inner rest (rows ++ (x.text, st.types.next) ∷ []) (new_rigid x.text st))
listed_first inner left rest x rows st e = ap (λ xs. listed inner xs rows st) e

pub listed_more : (g : Graph) (first now new : Table) (names left rest : List Name) (x : Name) (rows more : Rows ℕ)
    (text : List ℕ) (n : ℕ) → ListedSoFar g first names left now rows → left ≡ x ∷ rest → IsChecked g rows x (Ok tt)
    → n ≡ length now.births → length new.births ≡ length now.births + 1
    → state new ≡ with_variable true (is_equality_variable x.text) (state now) → Extends now new → text ≡ x.text
    → more ≡ rows ++ (text, n) ∷ [] → ListedSoFar g first names rest new more
listed_more g first now new names left rest x rows more text n inv e checked number births after extends same k =
    let next : ℕ = (state now).next in
    let k2 : more ≡ rows ++ (x.text, next) ∷ [] =
    k ∙ ap (λ z. rows ++ (z, n) ∷ []) same ∙ ap (λ (z : ℕ). rows ++ (x.text, z) ∷ []) (number ∙ sym (next_is now)) in
    let wide : length now.births ≤ length new.births = omega (arith, births) in
    let made : n < length new.births = omega (arith, births, number) in
    record {
      keeps = keeps_later first now new inv.keeps (keeps_extended now new extends);
      made = subst (AreMade new) (sym k) (made_snoc new rows text n (made_more now new rows wide inv.made) made);
      left_is = λ inner h.
          inv.left_is inner h
          ∙ listed_first inner left rest x rows (progress now g) e
          ∙ ap (λ (m : Answer (Unit {0})). m
          >>= λ u. listed inner rest (rows ++ (x.text, next) ∷ []) (new_rigid x.text (progress now g))) (checked inner h)
          ∙ ap (λ (s : State). listed inner rest (rows ++ (x.text, next) ∷ []) (with_types s (progress now g))) (sym after)
          ∙ ap (λ (z : Rows ℕ). listed inner rest z (progress new g)) (sym k2);
    }

pub listed_refused : (g : Graph) (first now : Table) (names left rest : List Name) (x : Name) (rows : Rows ℕ) (e : Fault)
    → ListedSoFar g first names left now rows → left ≡ x ∷ rest → IsChecked g rows x (Err e) → (inner : Scope)
    → inner.home ≡ g.home
    → Answers {R = Rows ℕ} (listed inner names [] (progress first g)) (λ made. (made, progress now g)) (Err e)
listed_refused g first now names left rest x rows e inv is checked inner home =
    subst (λ (w : Answer (Rows ℕ × Progress)). Answers {R = Rows ℕ} w (λ made. (made, progress now g)) (Err e))
    (sym (inv.left_is inner home ∙ listed_first inner left rest x rows (progress now g) is))
    (failed {R = Unit {0}} {S = Rows ℕ} (refuses_where (is_named x.text rows) 40 inner (name_at x))
    (λ u. listed inner rest (rows ++ (x.text, (state now).next) ∷ []) (new_rigid x.text (progress now g)))
    (λ u. tt) (λ made. (made, progress now g)) e (checked inner home))

pub listed_all : (g : Graph) (first now : Table) (names left : List Name) (rows : Rows ℕ)
    → ListedSoFar g first names left now rows → left ≡ [] → (inner : Scope) → inner.home ≡ g.home
    → listed inner names [] (progress first g) ≡ gives (rows, progress now g)
listed_all g first now names left rows inv e inner home =
    inv.left_is inner home ∙ ap (λ xs. listed inner xs rows (progress now g)) e

-- what a failed step hands on
pub passed_on : {R : Type 0} (P : Result R Fault → Type 0) (r : Result R Fault) (e : Fault) → IsErrAnd r (λ f. f ≡ e)
    → P (Err e) → P r
passed_on P (Ok x) e h k = absurd h
passed_on P (Err f) e h k = subst (λ (z : Fault). P (Err z)) (sym h) k
