-- The rules of signature expressions and specifications, a clause a rule, each named by its number in the Definition of
-- Standard ML (Revised), section 5.7, and matching as a relation, sections 5.2, 5.5 and 5.6.
--
-- A phrase begins at one number and ends at another: the type names that are made in it, those that the signature will
-- bind, have the numbers between. A signature is open here, as in inference; rule 65 closes it. Rules 81 and 82 are
-- those of datatypes of the core, and rule 78 is of `sharing`. That what rule 64 makes is well formed isn't asked: a
-- function that is no name may be put for a datatype's name, whose constructors stay.
use Rattle.std.specs.Prelude.{◌≡◌, ℕ, suc, ◌+◌, List, [], ◌∷◌, ◌++◌, length, map, Some, None, Bool, true, false}
use Rattle.sml_trees.specs.declared.name.At.{At}
use Rattle.sml_trees.specs.declared.name.Name.{Name}
use Rattle.sml_trees.specs.declared.name.LongName.{LongName}
use Rattle.semantic_objects.specs.declared.name.TyName.{TyName}
use Rattle.semantic_objects.specs.declared.entry.ConEntry.{ConEntry}
use Rattle.semantic_objects.specs.declared.entry.TypeFn.{TypeFn}
use Rattle.semantic_objects.specs.declared.entry.TypeStr.{TypeStr}
use Rattle.semantic_objects.specs.declared.entry.ValueEntry.{ValueEntry}
use Rattle.semantic_objects.specs.declared.entry.VidStatus.{VidStatus}
use Rattle.semantic_objects.specs.declared.entry.VidStatus.TheVariants as status
use Rattle.semantic_objects.specs.Tables.{Table, entry}
use Rattle.semantic_objects.specs.Trees.{TypeScheme, BindsBelow}
use Rattle.semantic_objects.specs.Environments.{Env, Signature, structures, types, values, empty_env, modified_by, with_structure, with_type, with_value}
use Rattle.unification.specs.Types.{Ty, State}
use Rattle.unification.specs.Instances.{IsMoreGeneral}
use Rattle.unification.specs.Closing.{canonical_scheme}
use Rattle.bare_phrases.specs.Phrases.{TyPhrase, ConPhrase, DatPhrase}
use Rattle.realisation.specs.Names.{is_listed}
use Rattle.realisation.specs.Realised.{Realisation, realised, function_admits}
use Rattle.static_semantics.specs.Inferring.{Scope, under, with_written_alone, found_at}
use Rattle.static_semantics.specs.WrittenVariables.{tyvars_of_ty, by_place, texts_once}
use Rattle.static_semantics.specs.TypeInference.{numbers, as_written, type_function}
use Rattle.static_semantics.specs.DatatypeInference.{Dat, own_name, own_type, made_types, with_datatype, exception_entry}
use Rattle.static_semantics.specs.RuleConditions.{are_distinct, do_differ, OfList, type_names, types_by, MaximisesEquality}
use Rattle.static_semantics.specs.Elaborates.{ElaboratesTy, ElaboratesDats}
use Rattle.static_semantics.specs.Holding.{AllItems}
use Rattle.module_semantics.specs.SigPhrases.{ValPhrase, TypeDescPhrase, SigPhrase, SpecPhrase, SigBinds, SpecPhrases}
use Rattle.module_semantics.specs.SignatureNames.{name_alone, with_bound_names, unit_names, empty_signature, closed}
use Rattle.module_semantics.specs.SignatureInference.{have_common, val_entry, exception_ty, with_function}
use Rattle.module_semantics.specs.Matching.{Item, items}

-- a signature by its parts
abbrev pub sig_of : List TyName → Env → Signature
sig_of bound env = record { bound = bound; env = env }

-- ---- bindings of specifications, each after what those before it in the same specification specify

-- the type variables of a type, by their first places
pub record OfType (ty : TyPhrase) (own : List (List ℕ × ℕ)) : Type 0 where
  pub texts : map (λ row. row.0) own ≡ texts_once [] (by_place (tyvars_of_ty ty))
  pub differ : do_differ (map (λ row. row.1) own) ≡ true

pub data ElaboratesVals : Scope → List ValPhrase → Env → Env → Type 0 where
  no_vals : (sc : Scope) (made : Env) → ElaboratesVals sc [] made made
  rule_79 : (sc : Scope) (desc : ValPhrase) (descs : List ValPhrase) (before after : Env) (own : List (List ℕ × ℕ))
      (ty : Ty)
      → OfType desc.ty own
      → entry desc.name.text (values before) ≡ None
      → ElaboratesTy (with_written_alone (as_written own) sc) desc.ty ty
      → ElaboratesVals sc descs (with_value desc.name.text (val_entry own ty) before) after
      → ElaboratesVals sc (desc ∷ descs) before after

-- types of new names, which admit equality or don't
pub data ElaboratesTypeDescs : Scope → Bool → ℕ → List TypeDescPhrase → Signature → Signature → ℕ → Type 0 where
  no_type_descs : (sc : Scope) (eq : Bool) (n : ℕ) (made : Signature) → ElaboratesTypeDescs sc eq n [] made made n
  rule_80 : (sc : Scope) (eq : Bool) (n m : ℕ) (desc : TypeDescPhrase) (descs : List TypeDescPhrase)
      (before after : Signature) (own : List (List ℕ × ℕ)) (name : TyName)
      → OfList desc.tyvars own
      → entry desc.name.text (types before.env) ≡ None
      → name ≡ own_name sc.home n (length desc.tyvars) eq
      → ElaboratesTypeDescs sc eq (suc n) descs
      (sig_of (before.bound ++ name ∷ []) (with_type desc.name.text (own_type name) before.env)) after m
      → ElaboratesTypeDescs sc eq n (desc ∷ descs) before after m

pub data ElaboratesExSpecs : Scope → List ConPhrase → Env → Env → Type 0 where
  no_ex_specs : (sc : Scope) (made : Env) → ElaboratesExSpecs sc [] made made
  rule_83_constant : (sc : Scope) (con : ConPhrase) (cons : List ConPhrase) (before after : Env)
      → con.arg ≡ None
      → entry con.name.text (values before) ≡ None
      → ElaboratesExSpecs sc cons (with_value con.name.text (exception_entry (exception_ty None)) before) after
      → ElaboratesExSpecs sc (con ∷ cons) before after
  rule_83_of : (sc : Scope) (con : ConPhrase) (cons : List ConPhrase) (before after : Env) (ty : TyPhrase) (t : Ty)
      → con.arg ≡ Some ty
      → entry con.name.text (values before) ≡ None
      → ElaboratesTy (with_written_alone [] sc) ty t
      → ElaboratesExSpecs sc cons (with_value con.name.text (exception_entry (exception_ty (Some t))) before) after
      → ElaboratesExSpecs sc (con ∷ cons) before after

-- the new type names of a `datatype` in written order, which admit equality by a choice
abbrev pub names_by : List ℕ → List Bool → List DatPhrase → ℕ → List TyName
names_by home choice [] number = []
names_by home [] (bind ∷ binds) number =
    own_name home number (length bind.tyvars) false ∷ names_by home [] binds (suc number)
names_by home (eq ∷ choice) (bind ∷ binds) number =
    own_name home number (length bind.tyvars) eq ∷ names_by home choice binds (suc number)

-- ---- signature expressions and specifications

mutual
  pub data ElaboratesSig : Table Signature → Scope → ℕ → SigPhrase → Signature → ℕ → Type 0 where
    rule_62 : (sigs : Table Signature) (sc : Scope) (n m : ℕ) (spec : SpecPhrase) (at : At) (made : Signature)
        → ElaboratesSpec sigs sc n spec made m
        → ElaboratesSig sigs sc n (SigPhrase.Sig spec at) made m
    rule_63 : (sigs : Table Signature) (sc : Scope) (n : ℕ) (name : Name) (at : At) (sig : Signature)
        → entry name.text sigs ≡ Some sig
        → ElaboratesSig sigs sc n (SigPhrase.Named name at)
        (with_bound_names (unit_names sc.home n sig.bound) sig) (n + length sig.bound)
    rule_64 : (sigs : Table Signature) (sc : Scope) (n m : ℕ) (sig : SigPhrase) (tyvars : List Name) (long : LongName)
        (ty : TyPhrase) (at : At) (made : Signature) (own : List (List ℕ × ℕ)) (str : TypeStr) (name : TyName) (t : Ty)
        → ElaboratesSig sigs sc n sig made m
        → OfList tyvars own
        → found_at types long.parts made.env ≡ Some str
        → name_alone str.function ≡ Some name
        → is_listed name made.bound ≡ true
        → ElaboratesTy (with_written_alone (as_written own) sc) ty t
        → length own ≡ name.arity
        → (name.eq ≡ true → function_admits (λ v. false) (type_function (numbers own) t) ≡ true)
        → ElaboratesSig sigs sc n (SigPhrase.Where sig tyvars long ty at)
        (with_function name (type_function (numbers own) t) made) m

  pub data ElaboratesSpec : Table Signature → Scope → ℕ → SpecPhrase → Signature → ℕ → Type 0 where
    rule_68 : (sigs : Table Signature) (sc : Scope) (n : ℕ) (descs : List ValPhrase) (at : At) (made : Env)
        → ElaboratesVals sc descs empty_env made
        → ElaboratesSpec sigs sc n (SpecPhrase.Vals descs at) (sig_of [] made) n
    rule_69 : (sigs : Table Signature) (sc : Scope) (n m : ℕ) (descs : List TypeDescPhrase) (at : At) (made : Signature)
        → ElaboratesTypeDescs sc false n descs empty_signature made m
        → ElaboratesSpec sigs sc n (SpecPhrase.Types descs at) made m
    rule_70 : (sigs : Table Signature) (sc : Scope) (n m : ℕ) (descs : List TypeDescPhrase) (at : At) (made : Signature)
        → ElaboratesTypeDescs sc true n descs empty_signature made m
        → ElaboratesSpec sigs sc n (SpecPhrase.Eqtypes descs at) made m
    rule_71 : (sigs : Table Signature) (sc : Scope) (n : ℕ) (binds : List DatPhrase) (at : At) (choice : List Bool)
        (dats : List Dat)
        → are_distinct (type_names binds) ≡ true
        → length choice ≡ length binds
        → ElaboratesDats (under (types_by sc.home choice binds n empty_env) sc) [] binds [] dats
        → MaximisesEquality sc.home n dats choice
        → ElaboratesSpec sigs sc n (SpecPhrase.Datatypes binds at)
        (sig_of (names_by sc.home choice binds n) (made_types sc.home n choice n dats empty_env)) (n + length binds)
    rule_72 : (sigs : Table Signature) (sc : Scope) (n : ℕ) (name : Name) (long : LongName) (at : At) (str : TypeStr)
        → found_at types long.parts sc.env ≡ Some str
        → ElaboratesSpec sigs sc n (SpecPhrase.Replication name long at)
        (sig_of [] (with_datatype name.text str empty_env)) n
    rule_73 : (sigs : Table Signature) (sc : Scope) (n : ℕ) (cons : List ConPhrase) (at : At) (made : Env)
        → ElaboratesExSpecs sc cons empty_env made
        → ElaboratesSpec sigs sc n (SpecPhrase.Exceptions cons at) (sig_of [] made) n
    rule_74 : (sigs : Table Signature) (sc : Scope) (n m : ℕ) (binds : SigBinds) (at : At) (made : Signature)
        → ElaboratesStrSpecs sigs sc n binds empty_signature made m
        → ElaboratesSpec sigs sc n (SpecPhrase.Structures binds at) made m
    rule_75 : (sigs : Table Signature) (sc : Scope) (n m : ℕ) (sig : SigPhrase) (at : At) (made : Signature)
        → ElaboratesSig sigs sc n sig made m
        → ElaboratesSpec sigs sc n (SpecPhrase.Include sig at) made m
    rules_76_77 : (sigs : Table Signature) (sc : Scope) (n m : ℕ) (specs : SpecPhrases) (at : At) (made : Signature)
        → ElaboratesSpecs sigs sc n specs made m
        → ElaboratesSpec sigs sc n (SpecPhrase.Sequence specs at) made m

  pub data ElaboratesStrSpecs : Table Signature → Scope → ℕ → SigBinds → Signature → Signature → ℕ → Type 0 where
    no_str_specs : (sigs : Table Signature) (sc : Scope) (n : ℕ) (made : Signature)
        → ElaboratesStrSpecs sigs sc n SigBinds.EndOfBinds made made n
    rule_84 : (sigs : Table Signature) (sc : Scope) (n k m : ℕ) (name : Name) (sig : SigPhrase) (rest : SigBinds)
        (before after made : Signature)
        → entry name.text (structures before.env) ≡ None
        → ElaboratesSig sigs sc n sig made k
        → ElaboratesStrSpecs sigs sc k rest
        (sig_of (before.bound ++ made.bound) (with_structure name.text made.env before.env)) after m
        → ElaboratesStrSpecs sigs sc n (SigBinds.Bind name sig rest) before after m

  pub data ElaboratesSpecs : Table Signature → Scope → ℕ → SpecPhrases → Signature → ℕ → Type 0 where
    rule_76 : (sigs : Table Signature) (sc : Scope) (n : ℕ)
        → ElaboratesSpecs sigs sc n SpecPhrases.EndOfSpecs empty_signature n
    rule_77 : (sigs : Table Signature) (sc : Scope) (n k m : ℕ) (spec : SpecPhrase) (rest : SpecPhrases)
        (first second : Signature)
        → ElaboratesSpec sigs sc n spec first k
        → ElaboratesSpecs sigs (under first.env sc) k rest second m
        → have_common second.env first.env ≡ false
        → ElaboratesSpecs sigs sc n (SpecPhrases.Next spec rest)
        (sig_of (first.bound ++ second.bound) (modified_by first.env second.env)) m

-- a signature expression by itself, with bound names
pub data ElaboratesSignature : Table Signature → Scope → ℕ → SigPhrase → Signature → ℕ → Type 0 where
  rule_65 : (sigs : Table Signature) (sc : Scope) (n m : ℕ) (sig : SigPhrase) (made : Signature)
      → ElaboratesSig sigs sc n sig made m
      → ElaboratesSignature sigs sc n sig (closed made) m

-- ---- enrichment and matching

-- what may be put for a type name
pub record Respects (s : State) (name : TyName) (by : TypeFn) : Type 0 where
  pub arity : by.arity ≡ name.arity
  pub closed : BindsBelow by.arity by.body
  pub equality : name.eq ≡ true → function_admits s.marks by ≡ true

-- a realisation of exactly the names that a signature binds
pub record Realises (s : State) (sig : Signature) (φ : Realisation) : Type 0 where
  pub bound : (name : TyName) → is_listed name sig.bound ≡ true
      → (by : TypeFn) × (φ name ≡ Some by) × Respects s name by
  pub others : (name : TyName) → is_listed name sig.bound ≡ false → φ name ≡ None

-- the constructors are the same where the type is specified with some
abbrev pub con_form : ConEntry → List ℕ × TypeScheme
con_form con = (con.name, canonical_scheme con.scheme)

abbrev pub HasCons : List ConEntry → List ConEntry → Type 0
HasCons [] found = Unit {0}
HasCons (con ∷ cons) found = map con_form (con ∷ cons) ≡ map con_form found

-- the status is the same where a constructor or an exception is specified
abbrev pub HasStatus : VidStatus → VidStatus → Type 0
HasStatus status.Variable found = Unit {0}
HasStatus status.Constructor found = found ≡ status.Constructor
HasStatus status.Exception found = found ≡ status.Exception

pub record EnrichesType (want found : TypeStr) : Type 0 where
  pub function : found.function ≡ want.function
  pub cons : HasCons want.cons found.cons

pub record EnrichesValue (s : State) (want found : ValueEntry) : Type 0 where
  pub scheme : IsMoreGeneral s found.scheme want.scheme
  pub status : HasStatus want.status found.status

-- an environment has what is there under a long name, and it enriches that
abbrev pub EnrichesItem : State → Env → Item → Type 0
EnrichesItem s env (Item.StructureItem path) = (found : Env) × (found_at structures path env ≡ Some found)
EnrichesItem s env (Item.TypeItem path want) =
    (found : TypeStr) × (found_at types path env ≡ Some found) × EnrichesType want found
EnrichesItem s env (Item.ValueItem path want) =
    (found : ValueEntry) × (found_at values path env ≡ Some found) × EnrichesValue s want found

-- the first environment enriches the second: it has all that is in it. The Definition, section 5.5
abbrev pub Enriches : State → Env → Env → Type 0
Enriches s env want = AllItems (EnrichesItem s env) (items want)

-- an environment matches a signature by a realisation: it enriches the signature's realised environment. The
-- Definition, section 5.6
pub record Matches (s : State) (env : Env) (sig : Signature) (φ : Realisation) : Type 0 where
  pub realises : Realises s sig φ
  pub enriches : Enriches s env (realised φ sig.env)
