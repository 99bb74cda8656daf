-- Constructors that are read, one after another.
use Rattle.std.proofs.Common.{◌≡◌, ℕ, List, [], ◌∷◌, ◌++◌, map, refl, sym, ap, ap₂, ◌∙◌, subst, Option, Some, None, Bool, true, false, cond}
use Rattle.std.specs.Prelude.{Result, Ok, Err, IsErrAnd}
use Rattle.std.specs.Option.{option_map, is_some}
use Rattle.std.proofs.lemmas.List.{append_assoc, append-nil, map-append}
use Rattle.cm_base.specs.declared.fault.Fault.{Fault}
use Rattle.cm_base.specs.declared.fault.Fault.TheVariants as fault
use Rattle.sml_trees.specs.declared.name.Name.{Name}
use Rattle.sml_trees.specs.declared.ty.Ty.{Ty as Phrase}
use Rattle.sml_trees.specs.declared.ty.ConBind.{ConBind}
use Rattle.semantic_objects.specs.declared.name.TyId.{TyId}
use Rattle.semantic_objects.specs.declared.entry.ValueEntry.{ValueEntry}
use Rattle.semantic_objects.specs.Symbols.{same_text}
use Rattle.semantic_objects.specs.Tables.{names_of}
use Rattle.unification.specs.Types.{Ty, State, put}
use Rattle.type_nodes.specs.Tables.{Table, type_of}
use Rattle.bare_phrases.specs.Phrases.{ConPhrase}
use Rattle.bare_phrases.specs.PhraseOf.{ty_phrase, con_phrase}
use Rattle.sml_modules.specs.Graphs.{Graph}
use Rattle.name_trails.specs.Trails.{Rows, last_entry}
use Rattle.static_semantics.specs.BasicTypes.{is_one_of}
use Rattle.static_semantics.specs.Inferring.{Scope, Answer, ◌>>=◌, gives, refuses_where, name_at, named, is_named}
use Rattle.static_semantics.specs.TypeInference.{infer_ty}
use Rattle.unification.specs.Closing.{closed_over}
use Rattle.static_semantics.specs.DatatypeInference.{counted, Con, infer_optional_ty, infer_cons}
use Rattle.core_scopes.specs.Scopes.{Bindings, written_of}
use Rattle.type_phrases.specs.Inferred.{Answers, KeepsTypes, HaveRows, IsScopeOver, scope_in}
use Rattle.type_phrases.specs.Steps.{OnlyMakes}
use Rattle.type_phrases.proofs.Keeping.{rows_later, over_later, makes_nothing, makes_later}
use Rattle.type_phrases.proofs.Steps.{failed}
use Rattle.type_bindings.proofs.ListedSoFar.{named_before}
use Rattle.listed_types.specs.declared.listed.ListedType.{ListedType}
use Rattle.listed_types.specs.Firm.{AreAlone}
use Rattle.datatype_elab.specs.declared.cons.ConRead.{ConRead}
use Rattle.datatype_elab.specs.declared.cons.Variables.{Variables}
use Rattle.datatype_elab.specs.Reading.{check_con, infer_con, argument_ty, con_of, IsArgument, AreCons, con_names, IsConStep, AreConsStep}
use Rattle.datatype_elab.proofs.Naming.{passed_on}

-- ---- names alone tell whether one is there

named_by : {A B : Type 0} (name : List ℕ) (xs : List (List ℕ × A)) (ys : List (List ℕ × B))
    → names_of xs ≡ names_of ys → is_named name xs ≡ is_named name ys
named_by name [] [] e = refl
named_by name [] (y ∷ ys) e = absurd (cc)
named_by name (x ∷ xs) [] e = absurd (cc)
named_by {A} {B} name (x ∷ xs) (y ∷ ys) e =
    let h : x.0 ≡ y.0 = cc in
    let k : names_of xs ≡ names_of ys = cc in
    by_test (same_text name x.0) (same_text name y.0) (ap (same_text name) h) (named_by name xs ys k)
  where
    by_test : (b c : Bool) → b ≡ c → is_some (named name xs) ≡ is_some (named name ys)
        → is_some (cond b (Some x.1) (named name xs)) ≡ is_some (cond c (Some y.1) (named name ys))
    by_test true true p q = refl
    by_test false false p q = q
    by_test true false p q = absurd (cc)
    by_test false true p q = absurd (cc)

bound_is : (rows : Rows (Unit {0})) (others : List Con) (name : List ℕ) → names_of rows ≡ names_of others
    → is_some (last_entry rows name) ≡ is_named name others
bound_is rows others name e = sym (named_before rows name) ∙ named_by name rows others e

-- ---- a constructor

abbrev Refusal : Type 0
Refusal = Result (Unit {0}) Fault

pub con_refused : (inner : Scope) (refused : List (List ℕ)) (name : Name) (others : List Con) (b : Bool) (e : Fault)
    (r : Refusal) → IsErrAnd r (λ f. f ≡ e) → b ≡ is_one_of refused name.text
    → Answers {R = Unit {0}} (refuses_where b 34 inner (name_at name)) (λ u. tt) (Err e)
    → Answers {R = Unit {0}} (check_con inner refused name others) (λ u. tt) r
con_refused inner refused name others b e r k h a =
    passed_on (λ (z : Refusal). Answers {R = Unit {0}} (check_con inner refused name others) (λ u. tt) z) r e k
    (failed {R = Unit {0}} {S = Unit {0}} (refuses_where (is_one_of refused name.text) 34 inner (name_at name))
    (λ u. refuses_where (is_named name.text others) 40 inner (name_at name)) (λ u. tt) (λ u. tt) e
    (subst (λ c. Answers {R = Unit {0}} (refuses_where c 34 inner (name_at name)) (λ u. tt) (Err e)) h a))

pub con_checked : (inner : Scope) (refused : List (List ℕ)) (name : Name) (others : List Con) (b c : Bool)
    (rows : Rows (Unit {0})) (r : Refusal) → b ≡ is_one_of refused name.text
    → refuses_where b 34 inner (name_at name) ≡ gives tt → c ≡ is_some (last_entry rows name.text)
    → names_of rows ≡ names_of others
    → Answers {R = Unit {0}} (refuses_where c 40 inner (name_at name)) (λ u. tt) r
    → Answers {R = Unit {0}} (check_con inner refused name others) (λ u. tt) r
con_checked inner refused name others b c rows r h a k same d =
    subst (λ (w : Answer (Unit {0})). Answers {R = Unit {0}} w (λ u. tt) r)
    (ap₂ (λ (w : Answer (Unit {0})) n. w >>= λ u. refuses_where n 40 inner (name_at name))
    (sym a ∙ ap (λ n. refuses_where n 34 inner (name_at name)) h) (k ∙ bound_is rows others name.text same)) d

-- ---- what holds later

scope_later : {V : Type 0} (g : Graph) (a b : Table) (read : V → ValueEntry) (sc : Bindings V) → KeepsTypes a b
    → HaveRows a (written_of sc) → scope_in g b read sc ≡ scope_in g a read sc
scope_later g a b read sc h k =
    ap (λ rows. (let inner : Scope = record { env = (scope_in g a read sc).env; written = rows; home = g.home } in inner))
    (rows_later a b (written_of sc) h k)

pub alone_later : (a b : Table) (rows : Rows TyId) → OnlyMakes a b → HaveRows a rows → AreAlone a rows → AreAlone b rows
alone_later a b [] m h k = tt
alone_later a b (row ∷ rows) m h k = (
  ap₂ (λ (s : State) t. put s.stands t) m.state (m.keeps.types row.1 h.0) ∙ k.0 ∙ sym (m.keeps.types row.1 h.0),
  alone_later a b rows m h.1 k.1,
)

arg_later : (a b : Table) (vs : Variables) (arg : Option ListedType) → KeepsTypes a b → IsArgument a vs arg
    → IsArgument b vs arg × (argument_ty b arg ≡ argument_ty a arg)
arg_later a b vs None h k = (tt, refl)
arg_later a b vs (Some x) h k =
    ((h.ids x.id k.0, k.1 ∙ ap (closed_over (counted vs.count vs.first)) (sym (h.types x.id k.0))), ap Some (h.types x.id k.0))

pub cons_later : (a b : Table) (vs : Variables) (cons : List ConRead) → KeepsTypes a b → AreCons a vs cons
    → AreCons b vs cons × (map (con_of b) cons ≡ map (con_of a) cons)
cons_later a b vs [] h k = (tt, refl)
cons_later a b vs (con ∷ cons) h k =
    let i = arg_later a b vs con.arg h k.0 in
    let j = cons_later a b vs cons h k.1 in
    ((i.0, j.0), ap₂ (λ (t : Option Ty) ts. (con.name, t) ∷ ts) i.1 j.1)

-- ---- a whole constructor

con_unread : {V : Type 0} (g : Graph) (old new : Table) (sc : Bindings V) (refused : List (List ℕ))
    (before after : Rows (Unit {0})) (vs : Variables) (con : ConPhrase) (e : Fault)
    → OnlyMakes old new
    → ((read : V → ValueEntry) (others : List Con) → names_of before ≡ names_of others
    → Answers (infer_con (scope_in g old read sc) refused con others) (con_of new) (Err e))
    → IsConStep g old sc refused before vs con new after (Err e)
con_unread g old new sc refused before after vs con e m h = record { infers = h; read = tt; names = tt; makes = m }

pub con_unchecked : {V : Type 0} (g : Graph) (old : Table) (sc : Bindings V) (refused : List (List ℕ))
    (before : Rows (Unit {0})) (vs : Variables) (con : ConPhrase) (e : Fault) (r : Result ConRead Fault)
    → IsErrAnd r (λ f. f ≡ e)
    → ((inner : Scope) (others : List Con) → inner.home ≡ g.home → names_of before ≡ names_of others
    → Answers {R = Unit {0}} (check_con inner refused con.name others) (λ u. tt) (Err e))
    → IsConStep g old sc refused before vs con old before r
con_unchecked g old sc refused before vs con e r k h =
    passed_on (IsConStep g old sc refused before vs con old before) r e k
    (con_unread g old old sc refused before before vs con e (makes_nothing old) (λ read others same.
    failed {R = Unit {0}} (check_con (scope_in g old read sc) refused con.name others)
    (λ u. infer_optional_ty (scope_in g old read sc) con.arg >>= λ arg. gives (con.name.text, arg))
    (λ u. tt) (con_of old) e (h (scope_in g old read sc) others refl same)))

abbrev IsFree : Graph → List (List ℕ) → Rows (Unit {0}) → Name → Type 0
IsFree g refused before name = (inner : Scope) (others : List Con) → inner.home ≡ g.home
    → names_of before ≡ names_of others → check_con inner refused name others ≡ gives tt

after_check : (inner : Scope) (refused : List (List ℕ)) (con : ConPhrase) (others : List Con)
    → check_con inner refused con.name others ≡ gives tt
    → infer_con inner refused con others
    ≡ (infer_optional_ty inner con.arg >>= λ arg. gives (con.name.text, arg))
after_check inner refused con others e =
    ap (λ (w : Answer (Unit {0})). w >>= λ u. infer_optional_ty inner con.arg >>= λ arg. gives (con.name.text, arg)) e

pub con_untyped : {V : Type 0} (g : Graph) (old new : Table) (sc : Bindings V) (refused : List (List ℕ))
    (before : Rows (Unit {0})) (vs : Variables) (con : ConPhrase) (e : Fault) (r : Result ConRead Fault)
    → IsErrAnd r (λ f. f ≡ e) → IsFree g refused before con.name → OnlyMakes old new
    → ((read : V → ValueEntry) → Answers (infer_optional_ty (scope_in g old read sc) con.arg) (argument_ty new) (Err e))
    → IsConStep g old sc refused before vs con new before r
con_untyped g old new sc refused before vs con e r k free m h =
    passed_on (IsConStep g old sc refused before vs con new before) r e k
    (con_unread g old new sc refused before before vs con e m (λ read others same.
    subst (λ (w : Answer Con). Answers w (con_of new) (Err e))
    (sym (after_check (scope_in g old read sc) refused con others (free (scope_in g old read sc) others refl same)))
    (failed (infer_optional_ty (scope_in g old read sc) con.arg) (λ arg. gives (con.name.text, arg)) (argument_ty new)
    (con_of new) e (h read))))

pub con_no_memory : {V : Type 0} (g : Graph) (old new : Table) (sc : Bindings V) (refused : List (List ℕ))
    (before after : Rows (Unit {0})) (vs : Variables) (con : ConPhrase) (r : Result ConRead Fault)
    → IsErrAnd r (λ f. f ≡ fault.NoMemory) → OnlyMakes old new
    → IsConStep g old sc refused before vs con new after r
con_no_memory g old new sc refused before after vs con r k m =
    passed_on (IsConStep g old sc refused before vs con new after) r fault.NoMemory k
    (con_unread g old new sc refused before after vs con fault.NoMemory m (λ read others same. tt))

pub con_read : {V : Type 0} (g : Graph) (old new : Table) (sc : Bindings V) (refused : List (List ℕ))
    (before after : Rows (Unit {0})) (vs : Variables) (con : ConPhrase) (name : List ℕ) (arg : Option ListedType)
    → IsFree g refused before con.name → OnlyMakes old new
    → ((read : V → ValueEntry) → infer_optional_ty (scope_in g old read sc) con.arg ≡ gives (argument_ty new arg))
    → IsArgument new vs arg → name ≡ con.name.text → names_of after ≡ names_of before ++ con.name.text ∷ []
    → IsConStep g old sc refused before vs con new after (Ok (record { name = name; arg = arg }))
con_read g old new sc refused before after vs con name arg free m h is n more = record {
  infers = λ read others same.
      after_check (scope_in g old read sc) refused con others (free (scope_in g old read sc) others refl same)
      ∙ ap (λ (w : Answer (Option Ty)). w >>= λ a. gives (con.name.text, a)) (h read)
      ∙ ap (λ z. gives (z, argument_ty new arg)) (sym n);
  read = is;
  names = more ∙ ap (λ z. names_of before ++ z ∷ []) (sym n);
  makes = m;
}

-- ---- an argument

pub argument_is : (inner : Scope) (arg : Option Phrase) (ty : Phrase) → arg ≡ Some ty
    → infer_optional_ty inner (option_map ty_phrase arg)
    ≡ (infer_ty inner (ty_phrase ty) >>= λ t. gives (Some t))
argument_is inner arg ty e = ap (λ (o : Option Phrase). infer_optional_ty inner (option_map ty_phrase o)) e

pub argument_refused : (inner : Scope) (t : Table) (arg : Option Phrase) (ty : Phrase) (e : Fault)
    (r : Result (Option ListedType) Fault) → arg ≡ Some ty → IsErrAnd r (λ f. f ≡ e)
    → Answers (infer_ty inner (ty_phrase ty)) (λ (a : ListedType). type_of t a.id) (Err e)
    → Answers (infer_optional_ty inner (option_map ty_phrase arg)) (argument_ty t) r
argument_refused inner t arg ty e r is k h =
    passed_on (Answers (infer_optional_ty inner (option_map ty_phrase arg)) (argument_ty t)) r e k
    (subst (λ (w : Answer (Option Ty)). Answers w (argument_ty t) (Err e)) (sym (argument_is inner arg ty is))
    (failed (infer_ty inner (ty_phrase ty)) (λ t. gives (Some t)) (λ (a : ListedType). type_of t a.id)
    (argument_ty t) e h))

-- ---- one after another

chain : {X : Type 0} (a b : Answer (Unit {0})) (m : Answer (Option Ty)) (name : List ℕ) (k : Con → Answer X)
    → (a >>= λ u. b >>= λ v. m >>= λ arg. k (name, arg))
    ≡ (((a >>= λ u. b) >>= λ v. m >>= λ arg. gives (name, arg)) >>= k)
chain None b m name k = refl
chain (Some (Err d)) b m name k = refl
chain (Some (Ok u)) None m name k = refl
chain (Some (Ok u)) (Some (Err d)) m name k = refl
chain (Some (Ok u)) (Some (Ok v)) None name k = refl
chain (Some (Ok u)) (Some (Ok v)) (Some (Err d)) name k = refl
chain (Some (Ok u)) (Some (Ok v)) (Some (Ok arg)) name k = refl

cons_first : (inner : Scope) (refused : List (List ℕ)) (left rest : List ConBind) (x : ConBind) (others made : List Con)
    → left ≡ x ∷ rest
    → infer_cons inner refused (map con_phrase left) others made
    ≡ (infer_con inner refused (con_phrase x) (others ++ made)
    >>= λ con. infer_cons inner refused (map con_phrase rest) others (made ++ con ∷ []))
cons_first inner refused left rest x others made e =
    ap (λ xs. infer_cons inner refused (map con_phrase xs) others made) e
    ∙ chain (refuses_where (is_one_of refused x.name.text) 34 inner (name_at x.name))
    (refuses_where (is_named x.name.text (others ++ made)) 40 inner (name_at x.name))
    (infer_optional_ty inner (con_phrase x).arg) x.name.text
    (λ con. infer_cons inner refused (map con_phrase rest) others (made ++ con ∷ []))

pub record ConsSoFar {V : Type 0} (g : Graph) (first : Table) (sc : Bindings V) (refused : List (List ℕ))
    (before : Rows (Unit {0})) (vs : Variables) (cons left : List ConBind) (now : Table) (names : Rows (Unit {0}))
    (made : List ConRead) : Type 0 where
  pub left_is : (read : V → ValueEntry) (others : List Con) → names_of before ≡ names_of others
      → infer_cons (scope_in g first read sc) refused (map con_phrase cons) others []
      ≡ infer_cons (scope_in g first read sc) refused (map con_phrase left) others (map (con_of now) made)
  pub read : AreCons now vs made
  pub known : names_of names ≡ names_of before ++ con_names made
  pub makes : OnlyMakes first now
  pub over : IsScopeOver g now sc
  pub alone : AreAlone now (written_of sc)

pub cons_none : {V : Type 0} (g : Graph) (t : Table) (sc : Bindings V) (refused : List (List ℕ))
    (before : Rows (Unit {0})) (vs : Variables) (cons : List ConBind) (made : List ConRead)
    → IsScopeOver g t sc → AreAlone t (written_of sc) → made ≡ []
    → ConsSoFar g t sc refused before vs cons cons t before made
cons_none g t sc refused before vs cons made o a e =
    subst (ConsSoFar g t sc refused before vs cons cons t before) (sym e) (record {
      left_is = λ read others same. refl;
      read = tt;
      known = sym (append-nil (names_of before));
      makes = makes_nothing t;
      over = o;
      alone = a;
    })

others_made : (t : Table) (before names : Rows (Unit {0})) (others : List Con) (made : List ConRead)
    → names_of names ≡ names_of before ++ con_names made → names_of before ≡ names_of others
    → names_of names ≡ names_of (others ++ map (con_of t) made)
others_made t before names others made e h =
    e ∙ ap₂ (λ xs ys. xs ++ ys) h (con_names_of made)
    ∙ sym (map-append (λ (c : Con). c.0) others (map (con_of t) made))
  where
    con_names_of : (cons : List ConRead) → con_names cons ≡ names_of (map (con_of t) cons)
    con_names_of [] = refl
    con_names_of (con ∷ cons) = ap (λ ns. con.name ∷ ns) (con_names_of cons)

cons_snoc : (t : Table) (vs : Variables) (cons : List ConRead) (con : ConRead) → AreCons t vs cons
    → IsArgument t vs con.arg → AreCons t vs (cons ++ con ∷ [])
cons_snoc t vs [] con h k = (k, tt)
cons_snoc t vs (c ∷ cons) con h k = (h.0, cons_snoc t vs cons con h.1 k)

pub cons_more : {V : Type 0} (g : Graph) (first now new : Table) (sc : Bindings V) (refused : List (List ℕ))
    (before names after : Rows (Unit {0})) (vs : Variables) (cons left rest : List ConBind) (x : ConBind)
    (made more : List ConRead) (con : ConRead) → ConsSoFar g first sc refused before vs cons left now names made
    → left ≡ x ∷ rest → IsConStep g now sc refused names vs (con_phrase x) new after (Ok con)
    → more ≡ made ++ con ∷ [] → HaveRows first (written_of sc)
    → ConsSoFar g first sc refused before vs cons rest new after more
cons_more g first now new sc refused before names after vs cons left rest x made more con inv e step k have =
    let late = cons_later now new vs made step.makes.keeps inv.read in
    record {
      left_is = λ read others same.
          inv.left_is read others same
          ∙ cons_first (scope_in g first read sc) refused left rest x others (map (con_of now) made) e
          ∙ ap (λ (w : Answer Con). w >>= λ c. infer_cons (scope_in g first read sc) refused (map con_phrase rest) others
          (map (con_of now) made ++ c ∷ []))
          (ap (λ (inner : Scope). infer_con inner refused (con_phrase x) (others ++ map (con_of now) made))
          (sym (scope_later g first now read sc inv.makes.keeps have))
          ∙ step.infers read (others ++ map (con_of now) made) (others_made now before names others made inv.known same))
          ∙ ap (infer_cons (scope_in g first read sc) refused (map con_phrase rest) others)
          (ap (λ cs. cs ++ con_of new con ∷ []) (sym late.1) ∙ sym (map-append (con_of new) made (con ∷ []))
          ∙ ap (map (con_of new)) (sym k));
      read = subst (AreCons new vs) (sym k) (cons_snoc new vs made con late.0 step.read);
      known = step.names ∙ ap (λ ns. ns ++ con.name ∷ []) inv.known
          ∙ append_assoc (names_of before) (con_names made) (con.name ∷ [])
          ∙ ap (λ ns. names_of before ++ ns) (sym (map-append (λ (c : ConRead). c.name) made (con ∷ []))
          ∙ ap con_names (sym k));
      makes = makes_later first now new inv.makes step.makes;
      over = over_later g now new sc step.makes.keeps inv.over;
      alone = alone_later now new (written_of sc) step.makes inv.over.written inv.alone;
    }

pub cons_refused : {V : Type 0} (g : Graph) (first now new : Table) (sc : Bindings V) (refused : List (List ℕ))
    (before names after : Rows (Unit {0})) (vs : Variables) (cons left rest : List ConBind) (x : ConBind)
    (made : List ConRead) (e : Fault) (r : Result (List ConRead) Fault)
    → ConsSoFar g first sc refused before vs cons left now names made → IsErrAnd r (λ f. f ≡ e)
    → left ≡ x ∷ rest → IsConStep g now sc refused names vs (con_phrase x) new after (Err e)
    → HaveRows first (written_of sc)
    → AreConsStep g first sc refused before vs (map con_phrase cons) new after r
cons_refused g first now new sc refused before names after vs cons left rest x made e r inv k is step have =
    passed_on (AreConsStep g first sc refused before vs (map con_phrase cons) new after) r e k (record {
      infers = λ read others same.
          subst (λ (w : Answer (List Con)). Answers w (map (con_of new)) (Err e))
          (sym (inv.left_is read others same
          ∙ cons_first (scope_in g first read sc) refused left rest x others (map (con_of now) made) is
          ∙ ap (λ (inner : Scope). infer_con inner refused (con_phrase x) (others ++ map (con_of now) made)
          >>= λ c. infer_cons (scope_in g first read sc) refused (map con_phrase rest) others
          (map (con_of now) made ++ c ∷ []))
          (sym (scope_later g first now read sc inv.makes.keeps have))))
          (failed (infer_con (scope_in g now read sc) refused (con_phrase x) (others ++ map (con_of now) made))
          (λ c. infer_cons (scope_in g first read sc) refused (map con_phrase rest) others
          (map (con_of now) made ++ c ∷ [])) (con_of new) (map (con_of new)) e
          (step.infers read (others ++ map (con_of now) made)
          (others_made now before names others made inv.known same)));
      read = tt;
      names = tt;
      makes = makes_later first now new inv.makes step.makes;
    })

pub cons_no_memory : {V : Type 0} (g : Graph) (first new : Table) (sc : Bindings V) (refused : List (List ℕ))
    (before after : Rows (Unit {0})) (vs : Variables) (cons : List ConPhrase) (r : Result (List ConRead) Fault)
    → IsErrAnd r (λ f. f ≡ fault.NoMemory) → OnlyMakes first new
    → AreConsStep g first sc refused before vs cons new after r
cons_no_memory g first new sc refused before after vs cons r k m =
    passed_on (AreConsStep g first sc refused before vs cons new after) r fault.NoMemory k
    (record { infers = λ read others same. tt; read = tt; names = tt; makes = m })

pub cons_all : {V : Type 0} (g : Graph) (first now : Table) (sc : Bindings V) (refused : List (List ℕ))
    (before names : Rows (Unit {0})) (vs : Variables) (cons left : List ConBind) (made : List ConRead)
    → ConsSoFar g first sc refused before vs cons left now names made → left ≡ []
    → AreConsStep g first sc refused before vs (map con_phrase cons) now names (Ok made)
cons_all g first now sc refused before names vs cons left made inv e = record {
  infers = λ read others same.
      inv.left_is read others same
      ∙ ap (λ xs. infer_cons (scope_in g first read sc) refused (map con_phrase xs) others (map (con_of now) made)) e;
  read = inv.read;
  names = inv.known;
  makes = inv.makes;
}
