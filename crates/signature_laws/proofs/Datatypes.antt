-- The names of the types of a datatype declaration: one after another, and each that of its type.
use Rattle.std.proofs.Common.{◌≡◌, ◌≢◌, ℕ, suc, ◌+◌, ◌-◌, ◌<◌, ◌≤◌, List, [], ◌∷◌, ◌++◌, map, length, get_or, refl, sym, ap, ◌∙◌, subst, arith, Option, Some, None, Bool, true, false}
use Rattle.std.specs.Option.{is_some}
use Rattle.std.proofs.lemmas.List.{length-map}
use Rattle.sml_trees.specs.declared.name.Name.{Name}
use Rattle.semantic_objects.specs.declared.name.TyName.{TyName}
use Rattle.semantic_objects.specs.declared.entry.ConEntry.{ConEntry}
use Rattle.semantic_objects.specs.declared.entry.TypeStr.{TypeStr}
use Rattle.semantic_objects.specs.declared.entry.VidStatus.TheVariants as status
use Rattle.semantic_objects.specs.Tables.{Table, entry, with_entry}
use Rattle.semantic_objects.specs.Environments.{Env, types, empty_env, with_type, with_value}
use Rattle.semantic_objects.proofs.Promised.{sets_entries}
use Rattle.bare_phrases.specs.Phrases.{DatPhrase}
use Rattle.static_semantics.specs.Inferring.{Progress, Scope, under, with_written_alone, Answer, ◌>>=◌, refuses_where, name_at, is_named}
use Rattle.static_semantics.specs.TypeInference.{new_rigid, listed, numbers, as_written}
use Rattle.static_semantics.specs.DatatypeInference.{own_name, own_ty, own_type, new_types, Dat, infer_cons, cons_of, infer_dats, equality_choice, with_cons, with_datatype, datatype_str, made_types, datatypes_of}
use Rattle.static_semantics.specs.Holding.{Given, AllItems}
use Rattle.static_semantics.proofs.Holding.{given_then, given_where}
use Rattle.static_semantics.proofs.TypesGrow.{given_more}
use Rattle.module_semantics.specs.SignatureNames.{name_alone}
use Rattle.module_semantics.specs.SignatureInference.{name_of_type, names_of_types}
use Rattle.table_laws.proofs.Declarations.{always}
use Rattle.signature_laws.proofs.Alone.{RisingFrom, function_alone}
use Rattle.signature_laws.proofs.Standing.{Ascend}

-- ---- names that differ

abbrev pub texts : List DatPhrase → List (List ℕ)
texts binds = map (λ (bind : DatPhrase). bind.name.text) binds

abbrev pub dat_names : List Dat → List (List ℕ)
dat_names dats = map (λ (dat : Dat). dat.name) dats

abbrev pub Others : List ℕ → List (List ℕ) → Type 0
Others name names = AllItems (λ m. name ≢ m) names

abbrev pub AllApart : List (List ℕ) → Type 0
AllApart [] = Unit {0}
AllApart (name ∷ names) = Others name names × AllApart names

abbrev AreNew : Table TypeStr → List (List ℕ) → Type 0
AreNew table names = AllItems (λ m. entry m table ≡ None) names

-- what isn't in a table with one more entry isn't in the table, and has another name
not_with : (name m : List ℕ) (x : TypeStr) (table : Table TypeStr) → entry m (with_entry name x table) ≡ None
    → (name ≢ m) × (entry m table ≡ None)
not_with name m x table h =
    let other : name ≢ m = λ e.
    let k : entry m (with_entry name x table) ≡ Some x =
    subst (λ z. entry z (with_entry name x table) ≡ Some x) e ((sets_entries TypeStr).here name x table) in
    (let l : None ≡ Some x = sym h ∙ k in absurd (cc)) in
    (other, sym ((sets_entries TypeStr).others name m x table other) ∙ h)

all_not_with : (name : List ℕ) (names : List (List ℕ)) (x : TypeStr) (table : Table TypeStr)
    → AreNew (with_entry name x table) names → Others name names × AreNew table names
all_not_with name [] x table h = (tt, tt)
all_not_with name (m ∷ names) x table h =
    let one : (name ≢ m) × (entry m table ≡ None) = not_with name m x table h.0 in
    let rest : Others name names × AreNew table names = all_not_with name names x table h.1 in
    ((one.0, rest.0), (one.1, rest.1))

not_there : {A : Type 0} (o : Option A) → is_some o ≡ false → o ≡ None
not_there None h = refl
not_there (Some x) h = absurd (cc)

-- a check on the way, and that it passed
passed : {A B : Type 0} (Q : B → Type 0) (o : Option A) (sc : Scope) (name : Name)
    (next : Unit {0} → Answer B) → (o ≡ None → Given Q (next tt))
    → Given Q (refuses_where (is_some o) 40 sc (name_at name) >>= next)
passed Q None sc name next h = h refl
passed Q (Some x) sc name next h = tt

pub names_differ : (sc : Scope) (binds : List DatPhrase) (number : ℕ) (made : Env)
    → Given (λ new. AreNew (types made) (texts binds) × AllApart (texts binds)) (new_types sc binds number made)
names_differ sc [] number made = (tt, tt)
names_differ sc (bind ∷ binds) number made =
    let Whole : Env → Type 0 = λ new. AreNew (types made) (texts (bind ∷ binds)) × AllApart (texts (bind ∷ binds)) in
    let str : TypeStr = own_type (own_name sc.home number (length bind.tyvars) true) in
    passed Whole (entry bind.name.text (types made)) sc bind.name _ (λ e.
    given_more
    (λ new. AreNew (with_entry bind.name.text str (types made)) (texts binds) × AllApart (texts binds)) Whole
    (new_types sc binds (suc number) (with_type bind.name.text str made))
    (λ new h.
    let rest : Others bind.name.text (texts binds) × AreNew (types made) (texts binds) =
    all_not_with bind.name.text (texts binds) str (types made) h.0 in
    ((e, rest.1), (rest.0, h.1)))
    (names_differ sc binds (suc number) (with_type bind.name.text str made)))

-- ---- lists of type variables

abbrev AllBelow : ℕ → List ℕ → Type 0
AllBelow m vs = AllItems (λ v. v < m) vs

rising_after : (m v : ℕ) (vs : List ℕ) → m ≤ v → AllBelow v vs → RisingFrom m vs → RisingFrom m (vs ++ v ∷ [])
rising_after m v [] h k l = (h, tt)
rising_after m v (u ∷ vs) h k l = (l.0, rising_after (suc u) v vs (omega (arith, k.0)) k.1 l.1)

below_after : (v : ℕ) (vs : List ℕ) → AllBelow v vs → AllBelow (v + 1) (vs ++ v ∷ [])
below_after v [] h = ((let k : v < v + 1 = omega arith in k), tt)
below_after v (u ∷ vs) h = (omega (arith, h.0), below_after v vs h.1)

numbers_after : (rows : List (List ℕ × ℕ)) (row : List ℕ × ℕ) → numbers (rows ++ row ∷ []) ≡ numbers rows ++ row.1 ∷ []
numbers_after [] row = refl
numbers_after (first ∷ rows) row = ap (λ z. first.1 ∷ z) (numbers_after rows row)

-- the variables of a list rise, and no name is made
abbrev pub ListRises : Progress → List (List ℕ × ℕ) × Progress → Type 0
ListRises st r = RisingFrom 0 (numbers r.0) × (r.1.names ≡ st.names)

pub list_rises : (sc : Scope) (tyvars : List Name) (before : List (List ℕ × ℕ)) (st : Progress)
    → RisingFrom 0 (numbers before) → AllBelow st.types.next (numbers before)
    → Given (ListRises st) (listed sc tyvars before st)
list_rises sc [] before st h k = (h, refl)
list_rises sc (name ∷ tyvars) before st h k =
    let row : List ℕ × ℕ = (name.text, st.types.next) in
    let e : numbers (before ++ row ∷ []) ≡ numbers before ++ st.types.next ∷ [] = numbers_after before row in
    given_where (ListRises st) (is_named name.text before) 40 sc (name_at name) _
    (given_more (ListRises (new_rigid name.text st)) (ListRises st)
    (listed sc tyvars (before ++ row ∷ []) (new_rigid name.text st)) (λ r l. l)
    (list_rises sc tyvars (before ++ row ∷ []) (new_rigid name.text st)
    (subst (RisingFrom 0) (sym e)
    (rising_after 0 st.types.next (numbers before) (let z : 0 ≤ st.types.next = omega arith in z) k h))
    (subst (AllBelow (st.types.next + 1)) (sym e) (below_after st.types.next (numbers before) k))))

-- ---- datatypes whose constructors are inferred

abbrev pub RisingDat : Dat → Type 0
RisingDat dat = RisingFrom 0 (numbers dat.variables)

-- they have the names of the phrases, in order, and no name is made yet
abbrev AreOf : List Dat → List DatPhrase → Progress → List Dat × Progress → Type 0
AreOf made binds st r =
    (dat_names r.0 ≡ dat_names made ++ texts binds) × AllItems RisingDat r.0 × (r.1.names ≡ st.names)

nothing_after : {A : Type 0} (xs : List A) → xs ++ [] ≡ xs
nothing_after [] = refl
nothing_after (x ∷ xs) = ap (λ z. x ∷ z) (nothing_after xs)

names_after : (made : List Dat) (dat : Dat) (rest : List (List ℕ))
    → dat_names (made ++ dat ∷ []) ++ rest ≡ dat_names made ++ dat.name ∷ rest
names_after [] dat rest = refl
names_after (first ∷ made) dat rest = ap (λ z. first.name ∷ z) (names_after made dat rest)

one_more : (made : List Dat) (dat : Dat) → AllItems RisingDat made → RisingDat dat → AllItems RisingDat (made ++ dat ∷ [])
one_more [] dat h k = (k, tt)
one_more (first ∷ made) dat h k = (h.0, one_more made dat h.1 k)

pub dats_are_of : (sc : Scope) (refused : List (List ℕ)) (binds : List DatPhrase) (made : List Dat) (st : Progress)
    → AllItems RisingDat made → Given (AreOf made binds st) (infer_dats sc refused binds made st)
dats_are_of sc refused [] made st h = (sym (nothing_after (dat_names made)), h, refl)
dats_are_of sc refused (bind ∷ binds) made st h =
    let Whole : List Dat × Progress → Type 0 = AreOf made (bind ∷ binds) st in
    given_then (ListRises st) Whole (listed sc bind.tyvars [] st) _ (list_rises sc bind.tyvars [] st tt tt) (λ r l.
    always Whole (infer_cons (with_written_alone (as_written r.0) sc) refused bind.cons (cons_of made) []) _ (λ cons.
    let dat : Dat = record { name = bind.name.text; variables = r.0; cons = cons } in
    given_more (AreOf (made ++ dat ∷ []) binds r.1) Whole (infer_dats sc refused binds (made ++ dat ∷ []) r.1)
    (λ q k. (k.0 ∙ names_after made dat (texts binds), k.1, k.2 ∙ l.1))
    (dats_are_of sc refused binds (made ++ dat ∷ []) r.1 (one_more made dat h l.0))))

-- ---- what is made of them

pub types_stay : (cons : List ConEntry) (env : Env) → types (with_cons cons env) ≡ types env
types_stay [] env = refl
types_stay (con ∷ cons) env =
    types_stay cons (with_value con.name (record { status = status.Constructor; scheme = con.scheme }) env)

module _ (home : List ℕ) (first : ℕ) (choice : List Bool) where
  abbrev pub name_at_number : ℕ → Dat → TyName
  name_at_number number dat =
      own_name home number (length dat.variables) (get_or choice (number - first) false)

  abbrev pub str_of : ℕ → Dat → TypeStr
  str_of number dat =
      datatype_str home first choice dat.variables (own_ty (name_at_number number dat) (numbers dat.variables)) dat.cons

  abbrev made : ℕ → List Dat → Env → Env
  made number dats env = made_types home first choice number dats env

  -- a type with another name than these stays
  pub stays : (name : List ℕ) (number : ℕ) (dats : List Dat) (env : Env) → Others name (dat_names dats)
      → entry name (types (made number dats env)) ≡ entry name (types env)
  stays name number [] env h = refl
  stays name number (dat ∷ dats) env h =
      let str : TypeStr = str_of number dat in
      stays name (suc number) dats (with_datatype dat.name str env) h.1
      ∙ ap (entry name) (types_stay str.cons (with_type dat.name str env))
      ∙ (sets_entries TypeStr).others dat.name name str (types env) (λ e. h.0 (sym e))

  -- each is found with its structure
  abbrev pub Found : ℕ → List Dat → Env → Type 0
  Found number [] env = Unit {0}
  Found number (dat ∷ dats) env = (entry dat.name (types env) ≡ Some (str_of number dat)) × Found (suc number) dats env

  pub found : (number : ℕ) (dats : List Dat) (env : Env) → AllApart (dat_names dats) → Found number dats (made number dats env)
  found number [] env h = tt
  found number (dat ∷ dats) env h =
      let str : TypeStr = str_of number dat in (
        stays dat.name (suc number) dats (with_datatype dat.name str env) h.0
            ∙ ap (entry dat.name) (types_stay str.cons (with_type dat.name str env))
            ∙ (sets_entries TypeStr).here dat.name str (types env),
        found (suc number) dats (with_datatype dat.name str env) h.1,
      )

  name_found : (number : ℕ) (dat : Dat) (o : Option TypeStr) → RisingDat dat → o ≡ Some (str_of number dat)
      → name_of_type o ≡ name_at_number number dat ∷ []
  name_found number dat o h e =
      let alone : name_alone (str_of number dat).function ≡ Some (name_at_number number dat) =
      function_alone (name_at_number number dat) 0 (numbers dat.variables) h
      (sym (length-map dat.variables (λ (row : List ℕ × ℕ). row.1))) in
      rw (e, alone)

  head_same : {A : Type 0} (x y : A) (xs ys : List A) → x ∷ xs ≡ y ∷ ys → (x ≡ y) × (xs ≡ ys)
  head_same x y xs ys h = (cc, cc)

  names_ascend : (number : ℕ) (binds : List DatPhrase) (dats : List Dat) (env : Env) → AllItems RisingDat dats
      → texts binds ≡ dat_names dats → Found number dats env
      → Ascend number (names_of_types binds env) (number + length binds)
  names_ascend number [] dats env h e f = (let k : number ≤ number + 0 = omega arith in k)
  names_ascend number (bind ∷ binds) [] env h e f = absurd (cc)
  names_ascend number (bind ∷ binds) (dat ∷ dats) env h e f =
      let both : (bind.name.text ≡ dat.name) × (texts binds ≡ dat_names dats) =
      head_same bind.name.text dat.name (texts binds) (dat_names dats) e in
      let one : name_of_type (entry bind.name.text (types env)) ≡ name_at_number number dat ∷ [] =
      name_found number dat (entry bind.name.text (types env)) h.0
      (ap (λ n. entry n (types env)) both.0 ∙ f.0) in
      let rest : Ascend (suc number) (names_of_types binds env) (suc number + length binds) =
      names_ascend (suc number) binds dats env h.1 both.1 f.1 in
      subst (λ z. Ascend number (z ++ names_of_types binds env) (number + length (bind ∷ binds))) (sym one) (
        (let k : number ≤ number = omega arith in k),
        subst (Ascend (suc number) (names_of_types binds env))
            (let k : suc number + length binds ≡ number + length (bind ∷ binds) = omega arith in k) rest,
      )

-- the names of the types, from the next number on up to the next one afterwards
pub datatypes_ascend : (sc : Scope) (refused : List (List ℕ)) (binds : List DatPhrase) (st : Progress)
    → Given (λ r. Ascend st.names (names_of_types binds r.0) r.1.names) (datatypes_of sc refused binds st)
datatypes_ascend sc refused binds st =
    let Whole : Env × Progress → Type 0 = λ r. Ascend st.names (names_of_types binds r.0) r.1.names in
    given_then (λ new. AreNew [] (texts binds) × AllApart (texts binds)) Whole
    (new_types sc binds st.names empty_env) _ (names_differ sc binds st.names empty_env) (λ new k.
    given_then (AreOf [] binds st) Whole (infer_dats (under new sc) refused binds [] st) _
    (dats_are_of (under new sc) refused binds [] st tt) (λ r l.
    let choice : List Bool = equality_choice sc.home st.names r.0 in
    subst (λ z. Ascend st.names (names_of_types binds (made_types sc.home st.names choice st.names r.0 empty_env))
    (z + length binds)) (sym l.2)
    (names_ascend sc.home st.names choice st.names binds r.0
    (made_types sc.home st.names choice st.names r.0 empty_env) l.1 (sym l.0)
    (found sc.home st.names choice st.names r.0 empty_env (subst AllApart (sym l.0) k.1)))))
