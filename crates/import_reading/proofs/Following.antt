-- Imports are read one after the other.
use Rattle.std.proofs.Common.{◌≡◌, ℕ, ◌+◌, ◌<◌, refl, sym, ap, subst, ◌∙◌, List, [], ◌∷◌, ◌++◌, length, take, drop, get_or, Some, None, Bool, true, false}
use Rattle.std.specs.Prelude.{Option, Result, Ok, Err}
use Rattle.std.proofs.lemmas.List.{take_more, take-append-drop}
use Rattle.cm_base.specs.declared.diag.Diag.{Diag}
use Rattle.cm_base.specs.declared.record.Given.{Given}
use Rattle.semantic_objects.specs.declared.name.TyName.{TyName}
use Rattle.semantic_objects.specs.Environments.{Top}
use Rattle.sml_modules.specs.declared.id.TopId.{TopId}
use Rattle.sml_modules.specs.Items.{Item, as_top, IsTop}
use Rattle.sml_modules.specs.Graphs.{Graph, top_at}
use Rattle.sml_modules.specs.Adding.{Extends, Adds}
use Rattle.interface_format.specs.Rules.{Agree}
use Rattle.interface_tops.specs.Tops.{interface_top}
use Rattle.interface_tops.proofs.Tops.{have_tops}
use Rattle.imported_interfaces.specs.declared.known.KnownNames.{KnownNames}
use Rattle.imported_interfaces.specs.Usable.{written, is_usable, usable_if, usable_of}
use Rattle.imported_interfaces.specs.Imported.{Imports, with_import, with_imported, damaged, imported_or, imported_one, then, imported_after, no_imports, imported}
use Rattle.imported_interfaces.specs.Known.{AreKept, Knows}
use Rattle.imported_interfaces.proofs.Fits.{known_names_fit}
use Rattle.initial_basis.specs.Basis.{basis_type_names}
use Rattle.interface_restoring.specs.declared.tops.UnitTables.{UnitTables}
use Rattle.interface_restoring.specs.Tops.{AreUnitTables, unit_of, unit_item}
use Rattle.import_reading.specs.declared.read.ReadImports.{ReadImports}
use Rattle.import_reading.specs.Placed.{with_place}
use Rattle.import_reading.specs.Reading.{RestoresTop, FindsUsable, IsUsable, AreRead, IsReadToo, ReadsOne, AreAllRead, ReadsTop}
use Rattle.import_reading.proofs.Placing.{there_later, unit_later, set_there, set_is}

-- ---- nothing is read yet

pub nothing_read : (known : KnownNames) (read : ReadImports) → known.names ≡ basis_type_names → AreKept known
    → read.tables.structures ≡ [] → read.tables.signatures ≡ [] → read.tables.functors ≡ [] → read.tables.funsigs ≡ []
    → read.known ≡ known → (items : List Item) → AreRead items no_imports read
nothing_read known read n k ss gs fs us e items = record {
  there = subst (AreUnitTables items) (sym (tables_same read.tables ss gs fs us))
      (record { structures = tt; signatures = tt; functors = tt; funsigs = tt });
  top = sym (ap (unit_of items) (tables_same read.tables ss gs fs us));
  kept = subst AreKept (sym e) k;
  known = subst (λ (z : List TyName). Knows z []) (sym (ap (λ (z : KnownNames). z.names) e ∙ n))
      known_names_fit.first;
}
  where
    empty : UnitTables
    empty = record { structures = []; signatures = []; functors = []; funsigs = [] }

    tables_same : (t : UnitTables) → t.structures ≡ [] → t.signatures ≡ [] → t.functors ≡ [] → t.funsigs ≡ []
        → t ≡ empty
    tables_same t h i j l = λ m. record { structures = h m; signatures = i m; functors = j m; funsigs = l m }

-- ---- one import

-- what is imported where an interface is that of a top
of_top : (unit : List ℕ) (given : Given) (made : Imports) (top : Top) (b : Bool)
    → interface_top given.import.provider given.interface ≡ Some top
    → is_usable unit made.names given.import.name top ≡ b
    → imported_one unit given made ≡ imported_or unit given (usable_if b top) made
of_top unit given made top b e u =
    ap (λ (z : Option Top). imported_or unit given (usable_of unit made.names given.import.name z) made) e
    ∙ ap (λ c. imported_or unit given (usable_if c top) made) u

-- the interface is none
pub none_read : (unit : List ℕ) (given : Given) (made : Imports) (items : List Item) (read : ReadImports)
    → interface_top given.import.provider given.interface ≡ None → ReadsOne unit given made items read false
none_read unit given made items read h =
    ap (λ (z : Option Top). imported_or unit given (usable_of unit made.names given.import.name z) made) h

-- it can't be used
pub unusable_read : (unit : List ℕ) (given : Given) (made : Imports) (old : ReadImports) (known : List TyName)
    (items : List Item) (read : ReadImports) (at_items : List Item) (new : Graph) (top : Option TopId) (id : TopId)
    (found : Option ℕ) → RestoresTop given.import.provider given.interface new top → top ≡ Some id
    → AreRead items made old
    → FindsUsable at_items unit given.import.name (top_at new id) old.known.names known found
    → ((p : ℕ) → found ≡ Some p → ⊥) → ReadsOne unit given made new.items read false
unusable_read unit given made old known items read at_items new top id (Some p) r t a f never = absurd (never p refl)
unusable_read unit given made old known items read at_items new top id None r t a f never =
    of_top unit given made (top_at new id) false
    (subst (RestoresTop given.import.provider given.interface new) t r).1 (f made.names a.known)

-- it can
pub usable_read : (unit : List ℕ) (given : Given) (made : Imports) (before read : ReadImports) (known : KnownNames)
    (old new : Graph) (top : Option TopId) (id : TopId) (found : Option ℕ) (p : ℕ)
    → RestoresTop given.import.provider given.interface new top → top ≡ Some id → Extends old new
    → AreRead old.items made before
    → FindsUsable new.items unit given.import.name (top_at new id) before.known.names known.names found → found ≡ Some p
    → AreKept known → read.known ≡ known → read.tables ≡ with_place given.import.name p before.tables
    → ReadsOne unit given made new.items read true
usable_read unit given made before read known old new top id found p r t e a f fp k rk rt = record {
  next = with_import given (top_at new id) made;
  is = of_top unit given made (top_at new id) true said (can.usable made.names a.known);
  are = record {
    there = subst (AreUnitTables new.items) (sym rt)
        (set_there new.items given.import.name.space given.import.name.name p before.tables (top_at new id) there
        can.found);
    top = ap (with_imported given.import.name (top_at new id))
        (a.top ∙ sym (unit_later old new before.tables e a.there))
        ∙ set_is new.items given.import.name.space given.import.name.name p before.tables (top_at new id) can.found
        ∙ ap (unit_of new.items) (sym rt);
    kept = subst AreKept (sym rk) k;
    known = subst (λ (z : List TyName). Knows z (made.names ++ written (top_at new id)))
        (sym (ap (λ (z : KnownNames). z.names) rk)) (can.known made.names a.known agree);
  };
}
  where
    said : interface_top given.import.provider given.interface ≡ Some (top_at new id)
    said = (subst (RestoresTop given.import.provider given.interface new) t r).1

    can : IsUsable new.items unit given.import.name (top_at new id) before.known.names known.names p
    can = subst (FindsUsable new.items unit given.import.name (top_at new id) before.known.names known.names) fp f

    there : AreUnitTables new.items before.tables
    there = there_later old new before.tables e a.there

    agree : Agree (written (top_at new id))
    agree = (have_tops.is given.import.provider given.interface (top_at new id) said).rules.names.agree

-- ---- one import more

-- steps one after the other
then_same : (first : Result Imports Diag) (f g : Imports → Result Imports Diag) → ((x : Imports) → f x ≡ g x)
    → then first f ≡ then first g
then_same (Err diag) f g h = refl
then_same (Ok x) f g h = h x

then_then : (first : Result Imports Diag) (f g : Imports → Result Imports Diag)
    → then first (λ x. then (f x) g) ≡ then (then first f) g
then_then (Err diag) f g = refl
then_then (Ok x) f g = refl

after_more : (unit : List ℕ) (front later : List Given) (made : Imports)
    → imported_after unit (front ++ later) made
    ≡ then (imported_after unit front made) (λ next. imported_after unit later next)
after_more unit [] later made = refl
after_more unit (given ∷ front) later made =
    then_same (imported_one unit given made) (λ next. imported_after unit (front ++ later) next)
    (λ next. then (imported_after unit front next) (λ more. imported_after unit later more))
    (λ next. after_more unit front later next)
    ∙ then_then (imported_one unit given made) (λ next. imported_after unit front next)
    (λ more. imported_after unit later more)

then_only : (first : Result Imports Diag) → then first (λ next. Ok next) ≡ first
then_only (Err diag) = refl
then_only (Ok next) = refl

-- what is imported by the first ones and one more
one_more : (unit : List ℕ) (imports : List Given) (i : ℕ) (given d : Given) (made : Imports)
    → given ≡ get_or imports i d → i < length imports → imported unit (take i imports) ≡ Ok made
    → imported unit (take (i + 1) imports) ≡ imported_one unit given made
one_more unit imports i given d made g l h =
    ap (imported unit) (take_more imports i d l ∙ ap (λ (z : Given). take i imports ++ z ∷ []) (sym g))
    ∙ after_more unit (take i imports) (given ∷ []) no_imports
    ∙ ap (λ (z : Result Imports Diag). then z (λ next. imported_after unit (given ∷ []) next)) h
    ∙ then_only (imported_one unit given made)

pub all_more : (unit : List ℕ) (imports : List Given) (i : ℕ) (given d : Given) (old new : List Item)
    (before read : ReadImports) (usable : Bool) → given ≡ get_or imports i d → i < length imports
    → AreAllRead unit (take i imports) old before
    → ((made : Imports) → AreRead old made before → ReadsOne unit given made new read usable) → usable ≡ true
    → AreAllRead unit (take (i + 1) imports) new read
all_more unit imports i given d old new before read usable g l h one u =
    let more : IsReadToo unit given h.made new read =
    subst (ReadsOne unit given h.made new read) u (one h.made h.are) in record {
      made = more.next;
      is = one_more unit imports i given d h.made g l h.is ∙ more.is;
      are = more.are;
    }

-- the first one that can't be used
pub refused_at : (unit : List ℕ) (imports : List Given) (i : ℕ) (given d : Given) (old new : List Item)
    (before read : ReadImports) (usable : Bool) (diag : Diag) → given ≡ get_or imports i d → i < length imports
    → AreAllRead unit (take i imports) old before
    → ((made : Imports) → AreRead old made before → ReadsOne unit given made new read usable) → usable ≡ false
    → diag ≡ damaged unit given → imported unit imports ≡ Err diag
refused_at unit imports i given d old new before read usable diag g l h one u e =
    ap (imported unit) (sym (take-append-drop (i + 1) imports))
    ∙ after_more unit (take (i + 1) imports) (drop (i + 1) imports) no_imports
    ∙ ap (λ (z : Result Imports Diag). then z (λ next. imported_after unit (drop (i + 1) imports) next))
    (one_more unit imports i given d h.made g l h.is
    ∙ subst (ReadsOne unit given h.made new read) u (one h.made h.are)
    ∙ ap (λ (z : Diag). Err z) (sym e))

-- ---- the top

pub top_read : (unit : List ℕ) (imports : List Given) (old new : Graph) (read : ReadImports) (tables : UnitTables)
    (p : ℕ) → AreAllRead unit imports old.items read → tables ≡ read.tables → Adds old new (unit_item old.items tables) p
    → ReadsTop unit imports new (Ok (record { place = p }))
top_read unit imports old new read tables p h t a = record {
  made = h.made;
  is = h.is;
  there = subst IsTop (sym a.stands) tt;
  top = ap as_top a.stands ∙ ap (unit_of old.items) t ∙ sym h.are.top;
}
