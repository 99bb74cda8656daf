-- Datatypes that are specified: their names, and the environment that they make part by part.
use Rattle.std.proofs.Common.{◌≡◌, ◌≢◌, ℕ, suc, ◌+◌, ◌-◌, List, [], ◌∷◌, ◌++◌, map, length, get_or, refl, sym, ap, ap₂, ◌∙◌, subst, arith, Option, Some, None, Bool, false, ◌⊎◌, inl, inr}
use Rattle.std.proofs.lemmas.List.{append-nil, length-map}
use Rattle.std.specs.Ordering.{eq_by_cmp}
use Rattle.sml_trees.specs.declared.name.Name.{Name}
use Rattle.semantic_objects.specs.declared.name.TyName.{TyName}
use Rattle.semantic_objects.specs.declared.entry.ConEntry.{ConEntry}
use Rattle.semantic_objects.specs.declared.entry.TypeStr.{TypeStr}
use Rattle.semantic_objects.specs.declared.entry.ValueEntry.{ValueEntry}
use Rattle.semantic_objects.specs.declared.entry.VidStatus.TheVariants as status
use Rattle.semantic_objects.specs.Tables.{Table, IsTable, by_bytes, entry, with_entry}
use Rattle.semantic_objects.specs.Environments.{Env, Signature, structures, types, values, empty_env, modified_by, with_type, with_value}
use Rattle.semantic_objects.proofs.Promised.{sets_entries, keeps_structures}
use Rattle.unification.specs.Types.{Ty}
use Rattle.unification.proofs.Walking.{either_way}
use Rattle.bare_phrases.specs.Phrases.{ConPhrase, DatPhrase}
use Rattle.static_semantics.specs.Inferring.{Scope, name_at}
use Rattle.static_semantics.specs.TypeInference.{numbers}
use Rattle.static_semantics.specs.DatatypeInference.{own_name, own_ty, Con, Dat, con_schemes, con_entries, with_cons, with_datatype, made_types}
use Rattle.static_semantics.specs.RuleConditions.{OfList}
use Rattle.static_semantics.specs.Elaborates.{ElaboratesCons, ElaboratesDats}
use Rattle.static_semantics.specs.Holding.{Given, IfSome, AllItems, TypeHas, ValueHas}
use Rattle.static_semantics.proofs.Holding.{given_then, rows_found, has_types, has_values, has_nothing, has_with_type, has_with_value}
use Rattle.static_semantics.proofs.TypesGrow.{given_more}
use Rattle.module_semantics.specs.SignatureNames.{name_alone}
use Rattle.module_semantics.specs.SignatureInference.{specified, type_alone, value_alone, specified_cons, specified_types, name_of_type, names_of_types}
use Rattle.module_semantics.specs.ElaboratesSignatures.{names_by}
use Rattle.unit_semantics.specs.Promises.{IsClosedScheme, IsClosedFunction, IsClosedEnv}
use Rattle.table_laws.specs.Rising.{RisingType, RisingEnv}
use Rattle.table_laws.proofs.Tables.{rising_types}
use Rattle.table_laws.proofs.Units.{type_alone_rises, value_alone_rises}
use Rattle.signature_laws.proofs.Datatypes.{texts, dat_names, Others, Found, str_of}
use Rattle.signature_laws.proofs.Signatures.{IsSpecified, specified_is}
use Rattle.signature_laws.proofs.Tables.{is_name, other_name}
use Rattle.specification_laws.specs.Derived.{Follows}
use Rattle.specification_laws.proofs.Alone.{function_alone}
use Rattle.specification_laws.proofs.Joined.{one_table}
use Rattle.specification_laws.proofs.Parts.{sig_of, Behind, part_behind}

-- ---- the datatypes are those of the phrases

abbrev con_names : List Con → List (List ℕ)
con_names cons = map (λ (con : Con). con.0) cons

abbrev con_texts : List ConPhrase → List (List ℕ)
con_texts cons = map (λ (con : ConPhrase). con.name.text) cons

abbrev pub AreOf : List DatPhrase → List Dat → Type 0
AreOf [] [] = Unit {0}
AreOf [] (dat ∷ dats) = ⊥
AreOf (bind ∷ binds) [] = ⊥
AreOf (bind ∷ binds) (dat ∷ dats) = (dat.name ≡ bind.name.text) × OfList bind.tyvars dat.variables
    × (con_names dat.cons ≡ con_texts bind.cons) × AreOf binds dats

cons_are : {sc : Scope} {refused : List (List ℕ)} {cons : List ConPhrase} {before made : List Con}
    → ElaboratesCons sc refused cons before made → con_names made ≡ con_texts cons
cons_are (ElaboratesCons.no_cons sc refused before) = refl
cons_are (ElaboratesCons.rule_29_constant sc refused con cons before made a b c d) =
    ap (λ z. con.name.text ∷ z) (cons_are d)
cons_are (ElaboratesCons.rule_29_of sc refused con cons before made ty t a b c d e) =
    ap (λ z. con.name.text ∷ z) (cons_are e)

pub dats_are : {sc : Scope} {refused : List (List ℕ)} {binds : List DatPhrase} {before : List Con} {dats : List Dat}
    → ElaboratesDats sc refused binds before dats → AreOf binds dats
dats_are (ElaboratesDats.no_dats sc refused before) = tt
dats_are (ElaboratesDats.rule_28 sc refused bind binds before dat dats e l c d) = (e, l, cons_are c, dats_are d)

pub same_texts : (binds : List DatPhrase) (dats : List Dat) → AreOf binds dats → dat_names dats ≡ texts binds
same_texts [] [] h = refl
same_texts [] (dat ∷ dats) h = absurd h
same_texts (bind ∷ binds) [] h = absurd h
same_texts (bind ∷ binds) (dat ∷ dats) h = ap₂ (λ x xs. x ∷ xs) h.0 (same_texts binds dats h.3)

-- ---- their names

abbrev flag : List Bool → Bool
flag [] = false
flag (eq ∷ rest) = eq

get_flag : (before rest : List Bool) → get_or (before ++ rest) (length before) false ≡ flag rest
get_flag [] [] = refl
get_flag [] (eq ∷ rest) = refl
get_flag (b ∷ before) rest = get_flag before rest

as_long : (tyvars : List Name) (own : List (List ℕ × ℕ)) → OfList tyvars own → length own ≡ length tyvars
as_long tyvars own h = sym (length-map own (λ (row : List ℕ × ℕ). row.0)) ∙ ap length h.texts
    ∙ length-map tyvars (λ (name : Name). name.text)

module _ (home : List ℕ) (first : ℕ) (choice : List Bool) where
  name_is : (number : ℕ) (bind : DatPhrase) (dat : Dat) (before rest : List Bool) → choice ≡ before ++ rest
      → number ≡ first + length before → OfList bind.tyvars dat.variables
      → own_name home number (length dat.variables) (get_or choice (number - first) false)
      ≡ own_name home number (length bind.tyvars) (flag rest)
  name_is number bind dat before rest c n l = ap₂ (own_name home number) (as_long bind.tyvars dat.variables l)
      (ap₂ (λ (xs : List Bool) (i : ℕ). get_or xs i false) c (let k : number - first ≡ length before = omega (arith, n) in k)
      ∙ get_flag before rest)

  one_name : (number : ℕ) (bind : DatPhrase) (dat : Dat) (o : Option TypeStr) → OfList bind.tyvars dat.variables
      → o ≡ Some (str_of home first choice number dat)
      → name_of_type o ≡ own_name home number (length dat.variables) (get_or choice (number - first) false) ∷ []
  one_name number bind dat o l e =
      let name : TyName = own_name home number (length dat.variables) (get_or choice (number - first) false) in
      let alone : name_alone (str_of home first choice number dat).function ≡ Some name =
      function_alone name (numbers dat.variables) l.differ
      (sym (length-map dat.variables (λ (row : List ℕ × ℕ). row.1))) in
      rw (e, alone)

  shift : (before rest : List Bool) (eq : Bool) → before ++ eq ∷ rest ≡ (before ++ eq ∷ []) ++ rest
  shift [] rest eq = refl
  shift (b ∷ before) rest eq = ap (λ z. b ∷ z) (shift before rest eq)

  longer : (before : List Bool) (eq : Bool) → length (before ++ eq ∷ []) ≡ suc (length before)
  longer [] eq = refl
  longer (b ∷ before) eq = ap suc (longer before eq)

  pub names_are : (number : ℕ) (binds : List DatPhrase) (dats : List Dat) (env : Env) (before rest : List Bool)
      → choice ≡ before ++ rest → number ≡ first + length before → length rest ≡ length binds → AreOf binds dats
      → Found home first choice number dats env → names_of_types binds env ≡ names_by home rest binds number
  names_are number [] dats env before [] c n e h f = refl
  names_are number [] dats env before (eq ∷ rest) c n e h f = refl
  names_are number (bind ∷ binds) dats env before [] c n e h f =
      absurd (omega (arith, (let k : 0 ≡ suc (length binds) = e in k)))
  names_are number (bind ∷ binds) [] env before (eq ∷ rest) c n e h f = absurd h
  names_are number (bind ∷ binds) (dat ∷ dats) env before (eq ∷ rest) c n e h f =
      let here : name_of_type (entry bind.name.text (types env))
      ≡ own_name home number (length bind.tyvars) eq ∷ [] =
      one_name number bind dat (entry bind.name.text (types env)) h.1
      (ap (λ z. entry z (types env)) (sym h.0) ∙ f.0)
      ∙ ap (λ z. z ∷ []) (name_is number bind dat before (eq ∷ rest) c n h.1) in
      ap₂ (λ (xs ys : List TyName). xs ++ ys) here
      (names_are (suc number) binds dats env (before ++ eq ∷ []) rest (c ∙ shift before rest eq)
      (let l : length (before ++ eq ∷ []) ≡ suc (length before) = longer before eq in
      let k : suc number ≡ first + length (before ++ eq ∷ []) = omega (arith, n, l) in k)
      (let k : suc (length rest) ≡ suc (length binds) = e in omega (arith, k)) h.3 f.1)

-- ---- tables that are filled from another one

-- with an entry where there is one
abbrev add : {A : Type 0} → List ℕ → Option A → Table A → Table A
add name None part = part
add name (Some x) part = with_entry name x part

abbrev Done : {A : Type 0} → Table A → Table A → List ℕ → Type 0
Done part whole n = entry n part ≡ entry n whole

abbrev Begun : {A : Type 0} → Table A → Table A → List ℕ → Type 0
Begun part whole n = (entry n part ≡ None) ⊎ Done part whole n

-- at the name and elsewhere
by_name : (P : Type 0) (n name : List ℕ) → (n ≡ name → P) → (name ≢ n → P) → P
by_name P n name f g = either_way (eq_by_cmp by_bytes n name) (λ e. f (is_name n name e)) (λ e. g (other_name n name e))

done_here : {A : Type 0} (name : List ℕ) (o : Option A) (part whole : Table A) → entry name whole ≡ o
    → Begun part whole name → Done (add name o part) whole name
done_here name None part whole e (inl h) = h ∙ sym e
done_here name None part whole e (inr h) = h
done_here {A} name (Some x) part whole e h = (sets_entries A).here name x part ∙ sym e

done_still : {A : Type 0} (name n : List ℕ) (o : Option A) (part whole : Table A) → entry name whole ≡ o
    → Done part whole n → Done (add name o part) whole n
done_still name n None part whole e h = h
done_still {A} name n (Some x) part whole e h = by_name (Done (with_entry name x part) whole n) n name
    (λ s. subst (λ z. Done (with_entry name x part) whole z) (sym s) ((sets_entries A).here name x part ∙ sym e))
    (λ d. (sets_entries A).others name n x part d ∙ h)

begun_still : {A : Type 0} (name n : List ℕ) (o : Option A) (part whole : Table A) → entry name whole ≡ o
    → Begun part whole n → Begun (add name o part) whole n
begun_still name n None part whole e h = h
begun_still {A} name n (Some x) part whole e h = by_name (Begun (with_entry name x part) whole n) n name
    (λ s. inr (subst (λ z. Done (with_entry name x part) whole z) (sym s) ((sets_entries A).here name x part ∙ sym e)))
    (λ d. still d h)
  where
    still : name ≢ n → Begun part whole n → Begun (with_entry name x part) whole n
    still d (inl i) = inl ((sets_entries A).others name n x part d ∙ i)
    still d (inr i) = inr ((sets_entries A).others name n x part d ∙ i)

-- with the entries of some names
abbrev pub add_all : {A : Type 0} → List (List ℕ) → Table A → Table A → Table A
add_all [] whole part = part
add_all (name ∷ names) whole part = add_all names whole (add name (entry name whole) part)

all_done : {A : Type 0} (names : List (List ℕ)) (n : List ℕ) (whole part : Table A) → Done part whole n
    → Done (add_all names whole part) whole n
all_done [] n whole part h = h
all_done (name ∷ names) n whole part h = all_done names n whole (add name (entry name whole) part)
    (done_still name n (entry name whole) part whole refl h)

all_begun : {A : Type 0} (names : List (List ℕ)) (n : List ℕ) (whole part : Table A)
    → (Others n names → entry n whole ≡ None) → Begun part whole n → Done (add_all names whole part) whole n
all_begun [] n whole part f (inl h) = h ∙ sym (f tt)
all_begun [] n whole part f (inr h) = h
all_begun (name ∷ names) n whole part f h = by_name (Done (add_all (name ∷ names) whole part) whole n) n name
    (λ s. all_done names n whole (add name (entry name whole) part)
    (subst (λ z. Done (add name (entry name whole) part) whole z) (sym s)
    (done_here name (entry name whole) part whole refl (subst (Begun part whole) s h))))
    (λ d. all_begun names n whole (add name (entry name whole) part) (λ o. f ((λ e. d (sym e)), o))
    (begun_still name n (entry name whole) part whole refl h))

add_rises : {A : Type 0} (name : List ℕ) (o : Option A) (part : Table A) → IsTable part → IsTable (add name o part)
add_rises name None part h = h
add_rises {A} name (Some x) part h = (sets_entries A).kept name x part h

all_rise : {A : Type 0} (names : List (List ℕ)) (whole part : Table A) → IsTable part
    → IsTable (add_all names whole part)
all_rise [] whole part h = h
all_rise (name ∷ names) whole part h = all_rise names whole (add name (entry name whole) part)
    (add_rises name (entry name whole) part h)

-- filled from nothing with all its names
pub filled : {A : Type 0} (names : List (List ℕ)) (whole : Table A) → IsTable whole
    → ((n : List ℕ) → Others n names → entry n whole ≡ None) → add_all names whole [] ≡ whole
filled names whole r f = one_table (add_all names whole []) whole (all_rise names whole [] refl) r
    (λ n. all_begun names n whole [] (f n) (inl refl))

add_append : {A : Type 0} (xs ys : List (List ℕ)) (whole part : Table A)
    → add_all (xs ++ ys) whole part ≡ add_all ys whole (add_all xs whole part)
add_append [] ys whole part = refl
add_append (x ∷ xs) ys whole part = add_append xs ys whole (add x (entry x whole) part)

-- ---- what is specified part by part

abbrev pub env_of : Table TypeStr → Table ValueEntry → Env
env_of ts vs = Rattle.semantic_objects.specs.Environments.env_of [] ts vs

added_value : (name : List ℕ) (o : Option ValueEntry) (ts : Table TypeStr) (vs : Table ValueEntry)
    → modified_by (env_of ts vs) (value_alone name o) ≡ env_of ts (add name o vs)
added_value name None ts vs = refl
added_value name (Some value) ts vs = refl

added_type : (name : List ℕ) (o : Option TypeStr) (ts : Table TypeStr) (vs : Table ValueEntry)
    → modified_by (env_of ts vs) (type_alone name o) ≡ env_of (add name o ts) vs
added_type name None ts vs = refl
added_type name (Some str) ts vs = refl

value_closed : (name : List ℕ) (o : Option ValueEntry) → IfSome (ValueHas IsClosedScheme) o
    → IsClosedEnv (value_alone name o)
value_closed name None h = has_nothing IsClosedScheme IsClosedFunction
value_closed name (Some value) h = has_with_value IsClosedScheme IsClosedFunction name value empty_env h
    (has_nothing IsClosedScheme IsClosedFunction)

type_closed : (name : List ℕ) (o : Option TypeStr) → IfSome (TypeHas IsClosedScheme IsClosedFunction) o
    → IsClosedEnv (type_alone name o)
type_closed name None h = has_nothing IsClosedScheme IsClosedFunction
type_closed name (Some str) h = has_with_type IsClosedScheme IsClosedFunction name str empty_env h
    (has_nothing IsClosedScheme IsClosedFunction)

-- behind an environment with some bound names
env_then : (first made sig : Signature) (names : List TyName) (before part after : Env) → RisingEnv first.env
    → Follows first (sig_of names before) made → IsSpecified part made sig → RisingEnv part → IsClosedEnv part
    → modified_by before part ≡ after → Follows first (sig_of names after) sig
env_then first made sig names before part after r h s p c e =
    let b : Behind first (sig_of names before) sig [] part = part_behind first (sig_of names before) made sig [] part r h
    (s.0 ∙ sym (append-nil made.bound), s.1, s.2) p c in
    subst (λ z. Follows first (sig_of names z) sig) e
    (subst (λ z. Follows first (sig_of z (modified_by before part)) sig) (append-nil names) b.follows)

-- the constructors of all types
abbrev pub all_texts : List DatPhrase → List (List ℕ)
all_texts [] = []
all_texts (bind ∷ binds) = con_texts bind.cons ++ all_texts binds

module _ (sc : Scope) (new : Env) (closed : IsClosedEnv new) (rises : RisingEnv new) (first : Signature)
    (first_rises : RisingEnv first.env) (names : List TyName) where
  abbrev Fills : Table TypeStr → Table ValueEntry → Signature → Type 0
  Fills ts vs sig = Follows first (sig_of names (env_of ts vs)) sig

  cons_fill : (cons : List ConPhrase) (ts : Table TypeStr) (vs : Table ValueEntry) (made : Signature) → Fills ts vs made
      → Given (Fills ts (add_all (con_texts cons) (values new) vs)) (specified_cons sc cons new made)
  cons_fill [] ts vs made h = h
  cons_fill (con ∷ cons) ts vs made h =
      let o : Option ValueEntry = entry con.name.text (values new) in
      let part : Env = value_alone con.name.text o in
      given_then (IsSpecified part made) (Fills ts (add_all (con_texts (con ∷ cons)) (values new) vs))
      (specified sc (name_at con.name) part made) _ (specified_is sc (name_at con.name) part made) (λ sig s.
      cons_fill cons ts (add con.name.text o vs) sig
      (env_then first made sig names (env_of ts vs) part (env_of ts (add con.name.text o vs)) first_rises h s
      (value_alone_rises con.name.text o)
      (value_closed con.name.text o (rows_found (ValueHas IsClosedScheme) con.name.text (values new)
      (has_values IsClosedScheme IsClosedFunction new closed)))
      (added_value con.name.text o ts vs)))

  pub types_fill : (binds : List DatPhrase) (ts : Table TypeStr) (vs : Table ValueEntry) (made : Signature)
      → Fills ts vs made
      → Given (Fills (add_all (texts binds) (types new) ts) (add_all (all_texts binds) (values new) vs))
      (specified_types sc binds new made)
  types_fill [] ts vs made h = h
  types_fill (bind ∷ binds) ts vs made h =
      let o : Option TypeStr = entry bind.name.text (types new) in
      let part : Env = type_alone bind.name.text o in
      let us : Table TypeStr = add bind.name.text o ts in
      let ws : Table ValueEntry = add_all (con_texts bind.cons) (values new) vs in
      let Q : Signature → Type 0 = Fills (add_all (texts (bind ∷ binds)) (types new) ts)
      (add_all (all_texts (bind ∷ binds)) (values new) vs) in
      given_then (IsSpecified part made) Q (specified sc (name_at bind.name) part made) _
      (specified_is sc (name_at bind.name) part made) (λ with s.
      given_then (Fills us ws) Q (specified_cons sc bind.cons new with) _
      (cons_fill bind.cons us vs with
      (env_then first made with names (env_of ts vs) part (env_of us vs) first_rises h s
      (type_alone_rises bind.name.text o (rows_found RisingType bind.name.text (types new) (rising_types new rises).1))
      (type_closed bind.name.text o (rows_found (TypeHas IsClosedScheme IsClosedFunction) bind.name.text (types new)
      (has_types IsClosedScheme IsClosedFunction new closed)))
      (added_type bind.name.text o ts vs))) (λ sig k.
      given_more (Fills (add_all (texts binds) (types new) us) (add_all (all_texts binds) (values new) ws)) Q
      (specified_types sc binds new sig)
      (λ last l. subst (λ z. Fills (add_all (texts (bind ∷ binds)) (types new) ts) z last)
      (sym (add_append (con_texts bind.cons) (all_texts binds) (values new) vs)) l)
      (types_fill binds us ws sig k)))

-- ---- what isn't in the datatypes

con_absent : (n : List ℕ) (cons : List ConEntry) (env : Env) → AllItems (λ (con : ConEntry). n ≢ con.name) cons
    → entry n (values (with_cons cons env)) ≡ entry n (values env)
con_absent n [] env h = refl
con_absent n (con ∷ cons) env h =
    let value : ValueEntry = record { status = status.Constructor; scheme = con.scheme } in
    con_absent n cons (with_value con.name value env) h.1
    ∙ (sets_entries ValueEntry).others con.name n value (values env) (λ e. h.0 (sym e))

schemes_absent : (home : List ℕ) (first : ℕ) (choice : List Bool) (own : List (List ℕ × ℕ))
    (of : Ty) (n : List ℕ) (cons : List Con) → Others n (con_names cons)
    → Others n (Rattle.semantic_objects.specs.Tables.names_of (con_schemes home first choice own of cons))
schemes_absent home first choice own of n [] h = tt
schemes_absent home first choice own of n (con ∷ cons) h =
    Rattle.inference_laws.proofs.Nodes.names_with (λ m. n ≢ m) con.0 _
    (con_schemes home first choice own of cons) h.0 (schemes_absent home first choice own of n cons h.1)

entries_absent : (n : List ℕ) (rows : Table Rattle.semantic_objects.specs.Trees.TypeScheme)
    → Others n (Rattle.semantic_objects.specs.Tables.names_of rows)
    → AllItems (λ (con : ConEntry). n ≢ con.name) (con_entries rows)
entries_absent n [] h = tt
entries_absent n (row ∷ rows) h = (h.0, entries_absent n rows h.1)

others_left : (n : List ℕ) (xs ys : List (List ℕ)) → Others n (xs ++ ys) → Others n xs
others_left n [] ys h = tt
others_left n (x ∷ xs) ys h = (h.0, others_left n xs ys h.1)

others_right : (n : List ℕ) (xs ys : List (List ℕ)) → Others n (xs ++ ys) → Others n ys
others_right n [] ys h = h
others_right n (x ∷ xs) ys h = others_right n xs ys h.1

no_structures : (cons : List ConEntry) (env : Env) → structures (with_cons cons env) ≡ structures env
no_structures [] env = refl
no_structures (con ∷ cons) env =
    no_structures cons (with_value con.name (record { status = status.Constructor; scheme = con.scheme }) env)
    ∙ keeps_structures.table (structures env)

module _ (home : List ℕ) (first : ℕ) (choice : List Bool) where
  pub values_absent : (number : ℕ) (binds : List DatPhrase) (dats : List Dat) (env : Env) (n : List ℕ) → AreOf binds dats
      → Others n (all_texts binds) → entry n (values (made_types home first choice number dats env))
      ≡ entry n (values env)
  values_absent number [] [] env n h o = refl
  values_absent number [] (dat ∷ dats) env n h o = absurd h
  values_absent number (bind ∷ binds) [] env n h o = absurd h
  values_absent number (bind ∷ binds) (dat ∷ dats) env n h o =
      let str : TypeStr = str_of home first choice number dat in
      let of : Ty = own_ty (own_name home number (length dat.variables) (get_or choice (number - first) false))
      (numbers dat.variables) in
      values_absent (suc number) binds dats (with_datatype dat.name str env) n h.3
      (others_right n (con_texts bind.cons) (all_texts binds) o)
      ∙ con_absent n str.cons (with_type dat.name str env) (entries_absent n
      (con_schemes home first choice dat.variables of dat.cons)
      (schemes_absent home first choice dat.variables of n dat.cons
      (subst (Others n) (sym h.2) (others_left n (con_texts bind.cons) (all_texts binds) o))))

  pub structures_none : (number : ℕ) (dats : List Dat) (env : Env)
      → structures (made_types home first choice number dats env) ≡ structures env
  structures_none number [] env = refl
  structures_none number (dat ∷ dats) env =
      let str : TypeStr = str_of home first choice number dat in
      structures_none (suc number) dats (with_datatype dat.name str env)
      ∙ no_structures str.cons (with_type dat.name str env) ∙ keeps_structures.table (structures env)
