-- Datatypes that are read, one after another.
use Rattle.std.proofs.Common.{◌≡◌, ℕ, ◌+◌, ◌≤◌, List, [], ◌∷◌, ◌++◌, length, map, get_or, refl, sym, ap, ap₂, ◌∙◌, subst, Some, None, Bool, true, false, zero, suc, arith}
use Rattle.std.specs.Prelude.{Result, Ok, Err, IsErrAnd}
use Rattle.std.proofs.lemmas.List.{append_assoc, append-nil, map-append, length-map}
use Rattle.cm_base.specs.declared.fault.Fault.{Fault}
use Rattle.cm_base.specs.declared.fault.Fault.TheVariants as fault
use Rattle.sml_trees.specs.declared.name.Name.{Name}
use Rattle.sml_trees.specs.declared.ty.ConBind.{ConBind}
use Rattle.sml_trees.specs.declared.ty.DatBind.{DatBind}
use Rattle.semantic_objects.specs.declared.name.TyId.{TyId}
use Rattle.semantic_objects.specs.declared.entry.ValueEntry.{ValueEntry}
use Rattle.semantic_objects.specs.Tables.{names_of}
use Rattle.semantic_objects.specs.Environments.{Env, empty_env}
use Rattle.unification.specs.Types.{Ty, State, Substitution}
use Rattle.type_nodes.specs.Tables.{Table, state, type_of}
use Rattle.type_nodes.specs.Keeping.{IsKept}
use Rattle.bare_phrases.specs.Phrases.{ConPhrase, DatPhrase}
use Rattle.bare_phrases.specs.PhraseOf.{con_phrase, dat_phrase}
use Rattle.sml_modules.specs.Items.{map_rows}
use Rattle.sml_modules.specs.Graphs.{Graph}
use Rattle.name_trails.specs.Trails.{Rows}
use Rattle.static_semantics.specs.Inferring.{Progress, Scope, with_written_alone, Answer, ◌>>=◌, gives, refuses_where, name_at, is_named}
use Rattle.static_semantics.specs.TypeInference.{new_rigid, listed, numbers, as_written}
use Rattle.static_semantics.specs.DatatypeInference.{counted, Con, Dat, infer_cons, cons_of, infer_dats}
use Rattle.core_scopes.specs.Scopes.{Bindings, seen, written_of, IsScopeOf}
use Rattle.core_scopes.specs.Marks.{Becomes}
use Rattle.type_phrases.specs.Inferred.{Answers, KeepsTypes, HaveRows, IsScopeOver, progress, scope_in}
use Rattle.type_phrases.proofs.Keeping.{keeps_all, keeps_later, makes_nothing}
use Rattle.type_phrases.proofs.Steps.{failed}
use Rattle.type_bindings.specs.Listing.{AreMade}
use Rattle.listed_types.specs.Firm.{AreAlone}
use Rattle.datatype_elab.specs.declared.cons.ConRead.{ConRead}
use Rattle.datatype_elab.specs.declared.cons.Variables.{Variables}
use Rattle.datatype_elab.specs.declared.dats.DatRead.{DatRead}
use Rattle.datatype_elab.specs.Reading.{infer_dat, con_of, con_names, AreConsStep}
use Rattle.datatype_elab.specs.Listing.{row_ids, IsListIn, AreConsUnder, dat_of, IsDat, AreDats, IsDatStep, AreDatsStep}
use Rattle.datatype_elab.proofs.OwnTypes.{length-counted}
use Rattle.datatype_elab.proofs.Naming.{passed_on}
use Rattle.datatype_elab.proofs.Consing.{cons_later}

-- ---- the numbers of a list

pub first_number : (rows : Rows ℕ) (row : List ℕ × ℕ) (count n k : ℕ) → row ≡ get_or rows 0 row
    → count ≡ length rows → numbers rows ≡ counted k n → (count ≡ 0 → ⊥) → numbers rows ≡ counted count row.1
first_number [] row count n k e c h some = absurd (some c)
first_number (r ∷ rows) row count n zero e c h some = absurd (cc)
first_number (r ∷ rows) row count n (suc k) e c h some =
    let same : row ≡ r = e in
    let head : r.1 ≡ n = cc in
    let len : length (numbers (r ∷ rows)) ≡ suc k = ap length h ∙ length-counted (suc k) n in
    let map_len : length (numbers (r ∷ rows)) ≡ length (r ∷ rows) = length-map (r ∷ rows) (λ (z : List ℕ × ℕ). z.1) in
    h ∙ ap₂ counted (sym len ∙ map_len ∙ sym c) (sym head ∙ ap (λ (z : List ℕ × ℕ). z.1) (sym same))

-- what a list does to a state, and which numbers its variables have
record ListFacts (before : Rows ℕ) (names : List Name) (st : Progress) (rows : Rows ℕ) (u : Progress) : Type 0 where
  numbered : numbers rows ≡ numbers before ++ counted (length names) st.types.next
  stands : u.types.stands ≡ st.types.stands

list_facts : (inner : Scope) (names : List Name) (before : Rows ℕ) (st : Progress) (rows : Rows ℕ) (u : Progress)
    → listed inner names before st ≡ gives (rows, u) → ListFacts before names st rows u
list_facts inner [] before st rows u e =
    let p : (before, st) ≡ (rows, u) = cc in
    let r : before ≡ rows = ap (λ (z : Rows ℕ × Progress). z.0) p in
    let s : st ≡ u = ap (λ (z : Rows ℕ × Progress). z.1) p in
    record {
      numbered = ap numbers (sym r) ∙ sym (append-nil (numbers before));
      stands = ap (λ (p : Progress). p.types.stands) (sym s);
    }
list_facts inner (name ∷ names) before st rows u e = by_test (is_named name.text before) e
    (λ f. list_facts inner names (before ++ (name.text, st.types.next) ∷ []) (new_rigid name.text st) rows u f)
  where
    more : ListFacts (before ++ (name.text, st.types.next) ∷ []) names (new_rigid name.text st) rows u
        → ListFacts before (name ∷ names) st rows u
    more f = record {
      numbered = f.numbered
          ∙ ap₂ (λ ns k. ns ++ counted (length names) k)
          (map-append (λ (z : List ℕ × ℕ). z.1) before ((name.text, st.types.next) ∷ []))
          (let k : st.types.next + 1 ≡ suc st.types.next = omega arith in k)
          ∙ append_assoc (numbers before) (st.types.next ∷ []) (counted (length names) (suc st.types.next));
      stands = f.stands;
    }

    by_test : (b : Bool)
        → (refuses_where b 40 inner (name_at name)
        >>= λ v. listed inner names (before ++ (name.text, st.types.next) ∷ []) (new_rigid name.text st))
        ≡ gives (rows, u)
        → (listed inner names (before ++ (name.text, st.types.next) ∷ []) (new_rigid name.text st) ≡ gives (rows, u)
        → ListFacts (before ++ (name.text, st.types.next) ∷ []) names (new_rigid name.text st) rows u)
        → ListFacts before (name ∷ names) st rows u
    by_test true f rest = absurd (cc)
    by_test false f rest = more (rest f)

in_list : (t : Table) (rows : Rows ℕ) (k first : ℕ) → numbers rows ≡ counted k first → AreMade t rows
    → ((n : ℕ) → first ≤ n → (state t).stands n ≡ Ty.Var n) → IsListIn t rows
in_list t [] k first e h s = tt
in_list t (row ∷ rows) zero first e h s = absurd (cc)
in_list t (row ∷ rows) (suc k) first e h s =
    let head : row.1 ≡ first = cc in
    let tail : numbers rows ≡ counted k (suc first) = cc in
    (h.0, s row.1 (omega (arith, head)), in_list t rows k (suc first) tail h.1 (λ n l. s n (omega (arith, l))))

pub record ListMade (old new : Table) (names : List Name) (rows : Rows ℕ) : Type 0 where
  pub numbered : numbers rows ≡ counted (length names) (state old).next
  pub is_in : IsListIn new rows

pub list_made : (g : Graph) (old new : Table) (names : List Name) (rows : Rows ℕ) → IsKept old → AreMade new rows
    → ((inner : Scope) → inner.home ≡ g.home
    → listed inner names [] (progress old g) ≡ gives (rows, progress new g))
    → ListMade old new names rows
list_made g old new names rows kept made h =
    let inner : Scope = record { env = empty_env; written = []; home = g.home } in
    let f : ListFacts [] names (progress old g) rows (progress new g) =
    list_facts inner names [] (progress old g) rows (progress new g) (h inner refl) in
    record {
      numbered = f.numbered;
      is_in = in_list new rows (length names) (state old).next f.numbered made
          (λ n l. ap (λ (s : Substitution). s n) f.stands ∙ kept.fit.beyond n l);
    }

-- ---- under a list

list_have : (t : Table) (rows : Rows ℕ) → IsListIn t rows → HaveRows t (row_ids rows)
list_have t [] h = tt
list_have t (row ∷ rows) h = (h.0, list_have t rows h.2)

list_alone : (t : Table) (rows : Rows ℕ) → IsListIn t rows → AreAlone t (row_ids rows)
list_alone t [] h = tt
list_alone t (row ∷ rows) h = (h.1, list_alone t rows h.2)

list_written : (t : Table) (rows : Rows ℕ) → map_rows (type_of t) (row_ids rows) ≡ as_written rows
list_written t [] = refl
list_written t (row ∷ rows) = ap (λ ts. (row.0, Ty.Var row.1) ∷ ts) (list_written t rows)

module _ {V : Type 0} (g : Graph) (t : Table) (old new : Bindings V) (list : Rows ℕ) (written : Rows TyId)
    (same : written ≡ row_ids list)
    (becomes : Becomes g old new (λ read. seen g read old) written) where
  pub under_over : IsScopeOf g old → IsListIn t list → IsScopeOver g t new
  under_over h k = record {
    there = becomes.there h;
    written = subst (HaveRows t) (sym (becomes.written ∙ same)) (list_have t list k);
  }

  pub under_alone : IsListIn t list → AreAlone t (written_of new)
  under_alone k = subst (AreAlone t) (sym (becomes.written ∙ same)) (list_alone t list k)

  under_scope : (read : V → ValueEntry)
      → scope_in g t read new ≡ with_written_alone (as_written list) (scope_in g t read old)
  under_scope read = ap₂ (λ (env : Env) (rows : List (List ℕ × Ty)).
      (let inner : Scope = record { env = env; written = rows; home = g.home } in inner))
      (becomes.seen read)
      (ap (map_rows (type_of t)) (becomes.written ∙ same) ∙ list_written t list)

  pub under_read : (later : Table) (refused : List (List ℕ)) (before after : Rows (Unit {0})) (vs : Variables)
      (cons : List ConPhrase) (result : Result (List ConRead) Fault)
      → AreConsStep g t new refused before vs cons later after result
      → AreConsUnder g t old list refused before vs cons later after result
  under_read later refused before after vs cons result step = record {
    infers = λ read others e. subst (λ (inner : Scope).
        Answers (infer_cons inner refused cons others []) (map (con_of later)) result) (under_scope read)
        (step.infers read others e);
    read = step.read;
    names = step.names;
    makes = step.makes;
  }

pub under_no_memory : {V : Type 0} (g : Graph) (t : Table) (old : Bindings V) (list : Rows ℕ)
    (refused : List (List ℕ)) (before : Rows (Unit {0})) (vs : Variables)
    (cons : List ConPhrase) (r : Result (List ConRead) Fault) → IsErrAnd r (λ f. f ≡ fault.NoMemory)
    → AreConsUnder g t old list refused before vs cons t before r
under_no_memory g t old list refused before vs cons r k =
    passed_on (AreConsUnder g t old list refused before vs cons t before) r fault.NoMemory k
    (record { infers = λ read others e. tt; read = tt; names = tt; makes = makes_nothing t })

-- ---- a datatype

abbrev pub ListedAs : Graph → Table → Table → List Name → Result (Rows ℕ) Fault → Type 0
ListedAs g old new names r = (inner : Scope) → inner.home ≡ g.home
    → Answers (listed inner names [] (progress old g)) (λ rows. (rows, progress new g)) r

pub listed_by : (g : Graph) (old new : Table) (names tyvars : List Name) (r : Result (Rows ℕ) Fault) → names ≡ tyvars
    → ListedAs g old new names r → ListedAs g old new tyvars r
listed_by g old new names tyvars r e h = subst (λ ns. ListedAs g old new ns r) e h

pub cons_by : {V : Type 0} (g : Graph) (old new : Table) (sc : Bindings V) (list : Rows ℕ) (refused : List (List ℕ))
    (before after : Rows (Unit {0})) (vs : Variables) (xs ys : List ConBind) (r : Result (List ConRead) Fault) → xs ≡ ys
    → AreConsUnder g old sc list refused before vs (map con_phrase xs) new after r
    → AreConsUnder g old sc list refused before vs (map con_phrase ys) new after r
cons_by g old new sc list refused before after vs xs ys r e h =
    subst (λ zs. AreConsUnder g old sc list refused before vs (map con_phrase zs) new after r) e h

pub dat_unlisted : {V : Type 0} (g : Graph) (old new : Table) (sc : Bindings V) (refused : List (List ℕ))
    (before : Rows (Unit {0})) (bind : DatPhrase) (e : Fault) (r : Result DatRead Fault) → IsErrAnd r (λ f. f ≡ e)
    → ListedAs g old new bind.tyvars (Err e) → KeepsTypes old new
    → IsDatStep g old sc refused before bind new before r
dat_unlisted g old new sc refused before bind e r k h keeps =
    passed_on (IsDatStep g old sc refused before bind new before) r e k (record {
      infers = λ u read others same.
          failed (listed (scope_in g u read sc) bind.tyvars [] (progress old g))
          (λ r. infer_cons (with_written_alone (as_written r.0) (scope_in g u read sc)) refused bind.cons others []
          >>= λ cons. gives ((let dat : Dat = record { name = bind.name.text; variables = r.0; cons = cons } in dat), r.1))
          (λ rows. (rows, progress new g)) (λ dat. (dat_of new dat, progress new g)) e (h (scope_in g u read sc) refl);
      read = tt;
      names = tt;
      keeps = keeps;
    })

pub dat_no_memory : {V : Type 0} (g : Graph) (old new : Table) (sc : Bindings V) (refused : List (List ℕ))
    (before after : Rows (Unit {0})) (bind : DatPhrase) (r : Result DatRead Fault)
    → IsErrAnd r (λ f. f ≡ fault.NoMemory)
    → KeepsTypes old new → IsDatStep g old sc refused before bind new after r
dat_no_memory g old new sc refused before after bind r k keeps =
    passed_on (IsDatStep g old sc refused before bind new after) r fault.NoMemory k
    (record { infers = λ u read others same. tt; read = tt; names = tt; keeps = keeps })

-- .. once its list is known
dat_listed : {V : Type 0} (g : Graph) (old mid u : Table) (sc : Bindings V) (refused : List (List ℕ))
    (bind : DatPhrase) (rows : Rows ℕ) (read : V → ValueEntry) (others : List Con)
    → ListedAs g old mid bind.tyvars (Ok rows)
    → infer_dat (scope_in g u read sc) refused bind others (progress old g)
    ≡ (infer_cons (with_written_alone (as_written rows) (scope_in g mid read sc)) refused bind.cons others []
    >>= λ cons. gives (
      (let dat : Dat = record { name = bind.name.text; variables = rows; cons = cons } in dat),
      progress mid g,
    ))
dat_listed g old mid u sc refused bind rows read others h =
    ap (λ (w : Answer (Rows ℕ × Progress)). w
    >>= λ r. infer_cons (with_written_alone (as_written r.0) (scope_in g u read sc)) refused bind.cons others []
    >>= λ cons. gives ((let dat : Dat = record { name = bind.name.text; variables = r.0; cons = cons } in dat), r.1))
    (h (scope_in g u read sc) refl)

pub dat_unread : {V : Type 0} (g : Graph) (old mid new : Table) (sc : Bindings V) (refused : List (List ℕ))
    (before after : Rows (Unit {0})) (vs : Variables) (bind : DatPhrase) (rows : Rows ℕ) (e : Fault)
    (r : Result DatRead Fault)
    → IsErrAnd r (λ f. f ≡ e) → ListedAs g old mid bind.tyvars (Ok rows) → KeepsTypes old mid
    → AreConsUnder g mid sc rows refused before vs bind.cons new after (Err e)
    → IsDatStep g old sc refused before bind new after r
dat_unread g old mid new sc refused before after vs bind rows e r k h keeps cons =
    passed_on (IsDatStep g old sc refused before bind new after) r e k (record {
      infers = λ u read others same.
          subst (λ (w : Answer (Dat × Progress)). Answers w (λ dat. (dat_of new dat, progress new g)) (Err e))
          (sym (dat_listed g old mid u sc refused bind rows read others h))
          (failed (infer_cons (with_written_alone (as_written rows) (scope_in g mid read sc)) refused bind.cons others [])
          (λ cons. gives (
            (let dat : Dat = record { name = bind.name.text; variables = rows; cons = cons } in dat),
            progress mid g,
          )) (map (con_of new)) (λ dat. (dat_of new dat, progress new g)) e
          (cons.infers read others same));
      read = tt;
      names = tt;
      keeps = keeps_later old mid new keeps cons.makes.keeps;
    })

pub dat_read : {V : Type 0} (g : Graph) (old mid new : Table) (sc : Bindings V) (refused : List (List ℕ))
    (before after : Rows (Unit {0})) (vs : Variables) (bind : DatPhrase) (name : List ℕ) (rows : Rows ℕ)
    (cons : List ConRead) → ListedAs g old mid bind.tyvars (Ok rows) → KeepsTypes old mid
    → AreConsUnder g mid sc rows refused before vs bind.cons new after (Ok cons) → name ≡ bind.name.text
    → numbers rows ≡ counted vs.count vs.first → vs.count ≡ length rows
    → IsDatStep g old sc refused before bind new after
    (Ok (record { name = name; list = rows; variables = vs; cons = cons }))
dat_read g old mid new sc refused before after vs bind name rows cons h keeps step n numbered count = record {
  infers = λ u read others same.
      dat_listed g old mid u sc refused bind rows read others h
      ∙ ap (λ (w : Answer (List Con)). w >>= λ cs. gives
      ((let dat : Dat = record { name = bind.name.text; variables = rows; cons = cs } in dat), progress mid g))
      (step.infers read others same)
      ∙ ap₂ (λ z (s : State). gives (
        (let dat : Dat = record { name = z; variables = rows; cons = map (con_of new) cons } in dat),
        (let p : Progress = record { types = s; names = length g.made } in p),
      )) (sym n) (sym step.makes.state);
  read = record { cons = step.read; numbered = numbered; counted = count };
  names = step.names;
  keeps = keeps_later old mid new keeps step.makes.keeps;
}

-- ---- one after another

inner_chain : {A B X : Type 0} (w : Answer A) (h : A → B) (k : B → Answer X)
    → (w >>= λ c. k (h c)) ≡ ((w >>= λ c. gives (h c)) >>= k)
inner_chain None h k = refl
inner_chain (Some (Err d)) h k = refl
inner_chain (Some (Ok c)) h k = refl

outer_chain : {A B C X : Type 0} (m : Answer A) (f : A → Answer B) (h : A → B → C) (k : C → Answer X)
    → (m >>= λ r. f r >>= λ c. k (h r c)) ≡ ((m >>= λ r. f r >>= λ c. gives (h r c)) >>= k)
outer_chain None f h k = refl
outer_chain (Some (Err d)) f h k = refl
outer_chain (Some (Ok r)) f h k = inner_chain (f r) (h r) k

dats_first : (inner : Scope) (refused : List (List ℕ)) (left rest : List DatBind) (x : DatBind) (made : List Dat)
    (st : Progress) → left ≡ x ∷ rest
    → infer_dats inner refused (map dat_phrase left) made st
    ≡ (infer_dat inner refused (dat_phrase x) (cons_of made) st
    >>= λ d. infer_dats inner refused (map dat_phrase rest) (made ++ d.0 ∷ []) d.1)
dats_first inner refused left rest x made st e =
    ap (λ xs. infer_dats inner refused (map dat_phrase xs) made st) e
    ∙ outer_chain (listed inner x.tyvars [] st)
    (λ r. infer_cons (with_written_alone (as_written r.0) inner) refused (dat_phrase x).cons (cons_of made) [])
    (λ r cons. ((let dat : Dat = record { name = x.name.text; variables = r.0; cons = cons } in dat), r.1))
    (λ d. infer_dats inner refused (map dat_phrase rest) (made ++ d.0 ∷ []) d.1)

pub record DatsSoFar {V : Type 0} (g : Graph) (first : Table) (sc : Bindings V) (refused : List (List ℕ))
    (binds left : List DatBind) (now : Table) (names : Rows (Unit {0})) (made : List DatRead) : Type 0 where
  pub left_is : (u : Table) (read : V → ValueEntry)
      → infer_dats (scope_in g u read sc) refused (map dat_phrase binds) [] (progress first g)
      ≡ infer_dats (scope_in g u read sc) refused (map dat_phrase left) (map (dat_of now) made) (progress now g)
  pub read : AreDats now made
  pub known : names_of names ≡ names_of (cons_of (map (dat_of now) made))
  pub keeps : KeepsTypes first now

pub dats_none : {V : Type 0} (g : Graph) (t : Table) (sc : Bindings V) (refused : List (List ℕ))
    (binds : List DatBind) (names : Rows (Unit {0})) (made : List DatRead) → names ≡ [] → made ≡ []
    → DatsSoFar g t sc refused binds binds t names made
dats_none g t sc refused binds names made e f =
    subst (λ ns. DatsSoFar g t sc refused binds binds t ns made) (sym e)
    (subst (DatsSoFar g t sc refused binds binds t []) (sym f)
    (record { left_is = λ u read. refl; read = tt; known = refl; keeps = keeps_all t }))

dat_later : (a b : Table) (dat : DatRead) → KeepsTypes a b → IsDat a dat → IsDat b dat × (dat_of b dat ≡ dat_of a dat)
dat_later a b dat h k =
    let i = cons_later a b dat.variables dat.cons h k.cons in (
      record { cons = i.0; numbered = k.numbered; counted = k.counted },
      ap (λ cs. (let made : Dat = record { name = dat.name; variables = dat.list; cons = cs } in made)) i.1,
    )

pub dats_later : (a b : Table) (dats : List DatRead) → KeepsTypes a b → AreDats a dats
    → AreDats b dats × (map (dat_of b) dats ≡ map (dat_of a) dats)
dats_later a b [] h k = (tt, refl)
dats_later a b (dat ∷ dats) h k =
    let i = dat_later a b dat h k.0 in
    let j = dats_later a b dats h k.1 in
    ((i.0, j.0), ap₂ (λ (d : Dat) ds. d ∷ ds) i.1 j.1)

dats_snoc : (t : Table) (dats : List DatRead) (dat : DatRead) → AreDats t dats → IsDat t dat → AreDats t (dats ++ dat ∷ [])
dats_snoc t [] dat h k = (k, tt)
dats_snoc t (d ∷ dats) dat h k = (h.0, dats_snoc t dats dat h.1 k)

cons_append : (dats : List Dat) (dat : Dat) → names_of (cons_of (dats ++ dat ∷ [])) ≡ names_of (cons_of dats) ++ names_of dat.cons
cons_append [] dat = ap names_of (append-nil dat.cons)
cons_append (d ∷ dats) dat =
    map-append (λ (c : Con). c.0) d.cons (cons_of (dats ++ dat ∷ []))
    ∙ ap (λ ns. names_of d.cons ++ ns) (cons_append dats dat)
    ∙ sym (append_assoc (names_of d.cons) (names_of (cons_of dats)) (names_of dat.cons))
    ∙ ap (λ ns. ns ++ names_of dat.cons) (sym (map-append (λ (c : Con). c.0) d.cons (cons_of dats)))

read_names : (t : Table) (cons : List ConRead) → con_names cons ≡ names_of (map (con_of t) cons)
read_names t [] = refl
read_names t (con ∷ cons) = ap (λ ns. con.name ∷ ns) (read_names t cons)

pub dats_more : {V : Type 0} (g : Graph) (first now new : Table) (sc : Bindings V) (refused : List (List ℕ))
    (names after : Rows (Unit {0})) (binds left rest : List DatBind) (x : DatBind) (made more : List DatRead)
    (dat : DatRead) → DatsSoFar g first sc refused binds left now names made → left ≡ x ∷ rest
    → IsDatStep g now sc refused names (dat_phrase x) new after (Ok dat) → more ≡ made ++ dat ∷ []
    → DatsSoFar g first sc refused binds rest new after more
dats_more g first now new sc refused names after binds left rest x made more dat inv e step k =
    let late = dats_later now new made step.keeps inv.read in
    let all : map (dat_of now) made ++ dat_of new dat ∷ [] ≡ map (dat_of new) more =
    ap (λ ds. ds ++ dat_of new dat ∷ []) (sym late.1) ∙ sym (map-append (dat_of new) made (dat ∷ []))
    ∙ ap (map (dat_of new)) (sym k) in
    record {
      left_is = λ u read.
          inv.left_is u read
          ∙ dats_first (scope_in g u read sc) refused left rest x (map (dat_of now) made) (progress now g) e
          ∙ ap (λ (w : Answer (Dat × Progress)). w >>= λ d. infer_dats (scope_in g u read sc) refused
          (map dat_phrase rest) (map (dat_of now) made ++ d.0 ∷ []) d.1)
          (step.infers u read (cons_of (map (dat_of now) made)) inv.known)
          ∙ ap (λ ds. infer_dats (scope_in g u read sc) refused (map dat_phrase rest) ds (progress new g)) all;
      read = subst (AreDats new) (sym k) (dats_snoc new made dat late.0 step.read);
      known = step.names ∙ ap₂ (λ xs ys. xs ++ ys) inv.known (read_names new dat.cons)
          ∙ sym (cons_append (map (dat_of now) made) (dat_of new dat))
          ∙ ap (λ ds. names_of (cons_of ds)) all;
      keeps = keeps_later first now new inv.keeps step.keeps;
    }

pub dats_refused : {V : Type 0} (g : Graph) (first now new : Table) (sc : Bindings V) (refused : List (List ℕ))
    (names after : Rows (Unit {0})) (binds left rest : List DatBind) (x : DatBind) (made : List DatRead) (e : Fault)
    (r : Result (List DatRead) Fault) → DatsSoFar g first sc refused binds left now names made
    → IsErrAnd r (λ f. f ≡ e) → left ≡ x ∷ rest → IsDatStep g now sc refused names (dat_phrase x) new after (Err e)
    → AreDatsStep g first sc refused (map dat_phrase binds) new r
dats_refused g first now new sc refused names after binds left rest x made e r inv k is step =
    passed_on (AreDatsStep g first sc refused (map dat_phrase binds) new) r e k (record {
      infers = λ u read.
          subst (λ (w : Answer (List Dat × Progress)).
          Answers w (λ dats. (map (dat_of new) dats, progress new g)) (Err e))
          (sym (inv.left_is u read
          ∙ dats_first (scope_in g u read sc) refused left rest x (map (dat_of now) made) (progress now g) is))
          (failed (infer_dat (scope_in g u read sc) refused (dat_phrase x) (cons_of (map (dat_of now) made))
          (progress now g))
          (λ d. infer_dats (scope_in g u read sc) refused (map dat_phrase rest) (map (dat_of now) made ++ d.0 ∷ []) d.1)
          (λ dat. (dat_of new dat, progress new g)) (λ dats. (map (dat_of new) dats, progress new g)) e
          (step.infers u read (cons_of (map (dat_of now) made)) inv.known));
      read = tt;
      keeps = keeps_later first now new inv.keeps step.keeps;
    })

pub dats_no_memory : {V : Type 0} (g : Graph) (first new : Table) (sc : Bindings V) (refused : List (List ℕ))
    (binds : List DatPhrase) (r : Result (List DatRead) Fault) → IsErrAnd r (λ f. f ≡ fault.NoMemory)
    → KeepsTypes first new → AreDatsStep g first sc refused binds new r
dats_no_memory g first new sc refused binds r k keeps =
    passed_on (AreDatsStep g first sc refused binds new) r fault.NoMemory k
    (record { infers = λ u read. tt; read = tt; keeps = keeps })

pub dats_all : {V : Type 0} (g : Graph) (first now : Table) (sc : Bindings V) (refused : List (List ℕ))
    (names : Rows (Unit {0})) (binds left : List DatBind) (made : List DatRead)
    → DatsSoFar g first sc refused binds left now names made → left ≡ []
    → AreDatsStep g first sc refused (map dat_phrase binds) now (Ok made)
dats_all g first now sc refused names binds left made inv e = record {
  infers = λ u read.
      inv.left_is u read
      ∙ ap (λ xs. infer_dats (scope_in g u read sc) refused (map dat_phrase xs) (map (dat_of now) made) (progress now g)) e;
  read = inv.read;
  keeps = inv.keeps;
}
