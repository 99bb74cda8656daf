-- When an interface can be used: from the place of the wanted name, and from names that fit.
use Rattle.std.proofs.Common.{◌≡◌, ℕ, refl, sym, ap, subst, ◌∙◌, List, ◌++◌, Some, None, Bool, true, false, ◌&&◌}
use Rattle.std.specs.Prelude.{Option, Ok, Err}
use Rattle.std.specs.Option.{is_some}
use Rattle.std.proofs.lemmas.Bool.{and_from}
use Rattle.cm_base.specs.declared.record.Namespace.{Namespace}
use Rattle.cm_base.specs.declared.record.Namespace.TheVariants as space
use Rattle.cm_base.specs.declared.record.ModName.{ModName}
use Rattle.semantic_objects.specs.declared.name.TyName.{TyName}
use Rattle.semantic_objects.specs.Environments.{Env, Signature, Functor, Top}
use Rattle.sml_modules.specs.declared.id.TopId.{TopId}
use Rattle.sml_modules.specs.Items.{Item}
use Rattle.sml_modules.specs.Graphs.{Graph, top_at, HasTop}
use Rattle.realisation.specs.Names.{names_in_top, once}
use Rattle.interface_format.specs.Interfaces.{IsInterface}
use Rattle.interface_reading.specs.declared.fault.RestoreFault.{RestoreFault}
use Rattle.interface_reading.specs.declared.fault.RestoreFault.TheVariants as fault
use Rattle.interface_tops.specs.Tops.{interface_top}
use Rattle.interface_tops.proofs.Tops.{have_tops}
use Rattle.imported_interfaces.specs.Usable.{written, has_under, has_module, names_fit}
use Rattle.imported_interfaces.specs.Known.{Knows}
use Rattle.imported_interfaces.proofs.Fits.{known_names_fit}
use Rattle.interface_restoring.specs.Restored.{Restores}
use Rattle.import_reading.specs.Placed.{FindsUnder, FindsWanted}
use Rattle.import_reading.specs.Reading.{RestoresTop, NotesNames, Notes, FindsUsable}

-- ---- bytes that are an interface, or none

pub top_restored : (home slice bytes : List ℕ) (old new : Graph) (id : TopId) → slice ≡ bytes
    → Restores home slice old new (Ok id) → RestoresTop home bytes new (Some id)
top_restored home slice bytes old new id e h = (
  h.gives.there,
  ap (interface_top home) (sym e)
      ∙ have_tops.found home slice (top_at new id) (subst (IsInterface home slice) (sym h.gives.stands) h.is),
)

no_top : (home bytes : List ℕ) → ((top : Top) → IsInterface home bytes top → ⊥) → interface_top home bytes ≡ None
no_top home bytes never = of_none (interface_top home bytes) refl
  where
    of_none : (found : Option Top) → interface_top home bytes ≡ found → interface_top home bytes ≡ None
    of_none None e = e
    of_none (Some top) e = absurd (never top (have_tops.is home bytes top e))

pub none_restored : (home slice bytes : List ℕ) (old new : Graph) (why : RestoreFault) → slice ≡ bytes
    → why ≡ fault.BadInterface → Restores home slice old new (Err why) → RestoresTop home bytes new None
none_restored home slice bytes old new fault.BadInterface e is h =
    ap (interface_top home) (sym e) ∙ no_top home slice h.1
none_restored home slice bytes old new fault.NoMemory e is h = absurd (cc)

-- ---- the wanted name

has_found : (items : List Item) (in_space : Namespace) (name : List ℕ) (top : Top) (p : ℕ)
    → FindsUnder items in_space name top (Some p) → has_under in_space name top ≡ true
has_found items space.Structure name top p h = ap (λ (z : Option Env). is_some z) h.1
has_found items space.Signature name top p h = ap (λ (z : Option Signature). is_some z) h.1
has_found items space.Functor name top p h = ap (λ (z : Option Functor). is_some z) h.1
has_found items space.Funsig name top p h = ap (λ (z : Option Functor). is_some z) h.1

has_none : (items : List Item) (in_space : Namespace) (name : List ℕ) (top : Top)
    → FindsUnder items in_space name top None → has_under in_space name top ≡ false
has_none items space.Structure name top h = ap (λ (z : Option Env). is_some z) h
has_none items space.Signature name top h = ap (λ (z : Option Signature). is_some z) h
has_none items space.Functor name top h = ap (λ (z : Option Functor). is_some z) h
has_none items space.Funsig name top h = ap (λ (z : Option Functor). is_some z) h

-- ---- whether it can be used

not_found : (items : List Item) (unit : List ℕ) (wanted : ModName) (top : Top) (old new : List TyName)
    (found : Option ℕ) → FindsWanted items wanted top found → ((p : ℕ) → found ≡ Some p → ⊥)
    → FindsUsable items unit wanted top old new None
not_found items unit wanted top old new (Some p) h never = absurd (never p refl)
not_found items unit wanted top old new None h never = λ earlier k.
    ap (λ b. b && names_fit unit earlier (written top)) (has_none items wanted.space wanted.name top h)

-- names that don't fit
and_false : (a b : Bool) → b ≡ false → (a && b) ≡ false
and_false true b e = e
and_false false b e = refl

not_fitting : (items : List Item) (unit : List ℕ) (wanted : ModName) (top : Top) (old new : List TyName)
    → Notes unit top old new false → FindsUsable items unit wanted top old new None
not_fitting items unit wanted top old new h = λ earlier k.
    and_false (has_module wanted top) (names_fit unit earlier (written top))
    (sym (known_names_fit.is old earlier (names_in_top top) unit k) ∙ h)

fitting : (items : List Item) (unit : List ℕ) (wanted : ModName) (top : Top) (old new : List TyName) (p : ℕ)
    → FindsWanted items wanted top (Some p) → Notes unit top old new true
    → FindsUsable items unit wanted top old new (Some p)
fitting items unit wanted top old new p f h = record {
  found = f;
  usable = λ earlier k.
      and_from (has_module wanted top) (names_fit unit earlier (written top))
      (has_found items wanted.space wanted.name top p f) (fit earlier k);
  known = λ earlier k agree.
      subst (λ (z : List TyName). Knows z (earlier ++ written top)) (sym h.1)
      (known_names_fit.then old earlier (names_in_top top) unit k agree (fit earlier k));
}
  where
    fit : (earlier : List TyName) → Knows old earlier → names_fit unit earlier (written top) ≡ true
    fit earlier k = sym (known_names_fit.is old earlier (names_in_top top) unit k) ∙ h.0

-- ---- answers of calls

wanted_at : (items : List Item) (wanted : ModName) (top : Top) (found : Option ℕ) (p : ℕ)
    → FindsWanted items wanted top found → found ≡ Some p → FindsWanted items wanted top (Some p)
wanted_at items wanted top found p h e = subst (FindsWanted items wanted top) e h

noted_as : (unit : List ℕ) (top : Top) (old new : List TyName) (b c : Bool) → Notes unit top old new b → b ≡ c
    → Notes unit top old new c
noted_as unit top old new b c h e = subst (Notes unit top old new) e h

-- ---- .. of the top that tables are read of

pub place_missing : (items : List Item) (unit : List ℕ) (wanted : ModName) (top read : Top) (old new : List TyName)
    (found : Option ℕ) → top ≡ read → FindsWanted items wanted read found → ((p : ℕ) → found ≡ Some p → ⊥)
    → FindsUsable items unit wanted top old new None
place_missing items unit wanted top read old new found e h never =
    subst (λ (z : Top). FindsUsable items unit wanted z old new None) (sym e)
    (not_found items unit wanted read old new found h never)

pub names_missing : (items : List Item) (unit : List ℕ) (wanted : ModName) (top : Top) (names old new : List TyName)
    (b : Bool) → names ≡ once (names_in_top top) → NotesNames unit names old new b → b ≡ false
    → FindsUsable items unit wanted top old new None
names_missing items unit wanted top names old new b e h is =
    not_fitting items unit wanted top old new
    (noted_as unit top old new b false (subst (λ (z : List TyName). NotesNames unit z old new b) e h) is)

pub all_found : (items : List Item) (unit : List ℕ) (wanted : ModName) (top read : Top) (names old new : List TyName)
    (found : Option ℕ) (p : ℕ) (b : Bool) → top ≡ read → FindsWanted items wanted read found → found ≡ Some p
    → names ≡ once (names_in_top top) → NotesNames unit names old new b → b ≡ true
    → FindsUsable items unit wanted top old new (Some p)
all_found items unit wanted top read names old new found p b e f fp n h is =
    fitting items unit wanted top old new p
    (subst (λ (z : Top). FindsWanted items wanted z (Some p)) (sym e) (wanted_at items wanted read found p f fp))
    (noted_as unit top old new b true (subst (λ (z : List TyName). NotesNames unit z old new b) n h) is)

-- ---- the top that the bytes are the interface of

pub top_there : (home bytes : List ℕ) (new : Graph) (found : Option TopId) (id : TopId)
    → RestoresTop home bytes new found → found ≡ Some id → HasTop new id
top_there home bytes new found id h e = (subst (RestoresTop home bytes new) e h).0

pub no_top_there : (home bytes : List ℕ) (new : Graph) (found : Option TopId) → RestoresTop home bytes new found
    → ((id : TopId) → found ≡ Some id → ⊥) → interface_top home bytes ≡ None
no_top_there home bytes new None h never = h
no_top_there home bytes new (Some id) h never = absurd (never id refl)
