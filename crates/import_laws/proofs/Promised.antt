-- The law, as the public function of this crate states it.
use Rattle.std.proofs.Common.{◌≡◌, ℕ, List, [], ◌∷◌, Option, Some, None, Result, Ok, Err, Bool, true, false, not, refl, subst}
use Rattle.cm_base.specs.declared.record.Given.{Given}
use Rattle.semantic_objects.specs.declared.name.TyName.{TyName}
use Rattle.semantic_objects.specs.declared.name.Owner.{Owner}
use Rattle.semantic_objects.specs.declared.name.Owner.TheVariants as owner
use Rattle.semantic_objects.specs.Symbols.{same_owner}
use Rattle.semantic_objects.specs.Environments.{Top, empty_top}
use Rattle.env_parts.specs.Types.{is_bound}
use Rattle.realisation.specs.Names.{names_in_top}
use Rattle.realisation.specs.Canonical.{is_own}
use Rattle.static_semantics.specs.Inferring.{Progress}
use Rattle.static_semantics.proofs.Holding.{has_nothing}
use Rattle.inference_laws.specs.Nodes.{SchemeOf, FunctionOf, below_number}
use Rattle.unit_semantics.specs.Promises.{IsClosedScheme, IsClosedFunction, IsClosedTop}
use Rattle.unit_laws.specs.Parts.{TopOf}
use Rattle.table_laws.specs.Rising.{RisingTop}
use Rattle.interface_format.specs.Interfaces.{IsInterface}
use Rattle.interface_format.specs.Rules.{is_not_bound}
use Rattle.interface_tops.specs.Tops.{interface_top}
use Rattle.interface_tops.proofs.Tops.{have_tops}
use Rattle.imported_interfaces.specs.Usable.{written, has_module, is_of_another, writes_the_basis, writes_no_name_of, is_usable, usable_if, usable_of, usable_top}
use Rattle.imported_interfaces.specs.Imported.{Imports, with_import, imported_or, imported_one, then, imported_after, no_imports}
use Rattle.basis_laws.specs.Promises.{MayBeGiven}
use Rattle.import_laws.specs.Promises.{ImportsMayBeGiven}
use Rattle.import_laws.proofs.Items.{and_left, and_right, all_picked}
use Rattle.import_laws.proofs.Nodes.{lets_below, AreOthers}
use Rattle.import_laws.proofs.Tops.{top_may, top_rises, top_closed}
use Rattle.import_laws.proofs.Joining.{of_under, rising_under, closed_under}

-- what is given so far
record Fits (unit : List ℕ) (top : Top) : Type 0 where
  of : (k : ℕ) → TopOf (below_number unit k) top
  rises : RisingTop top
  closed : IsClosedTop top

-- ---- one interface

not_false : (b : Bool) → not b ≡ true → b ≡ false
not_false true h = absurd (cc)
not_false false h = refl

bound_other : (unit : List ℕ) (o : Owner) → not (is_bound o) ≡ false → same_owner (owner.«Unit» unit) o ≡ false
bound_other unit owner.Basis h = refl
bound_other unit (owner.«Unit» u) h = absurd (cc)
bound_other unit owner.Bound h = refl

others : (unit : List ℕ) (top : Top) → writes_no_name_of unit (written top) ≡ true → AreOthers unit (names_in_top top)
others unit top h =
    all_picked is_not_bound (is_of_another unit) (λ (name : TyName). is_own unit name ≡ false) (names_in_top top)
    (λ name e. not_false (is_own unit name) e) (λ name e. bound_other unit name.owner e) h

record IsTaken (unit : List ℕ) (given : Given) (top : Top) : Type 0 where
  is : IsInterface given.import.provider given.interface top
  others : AreOthers unit (names_in_top top)

taken_if : (unit : List ℕ) (earlier : List TyName) (given : Given) (top found : Top) (b : Bool)
    → is_usable unit earlier given.import.name found ≡ b
    → interface_top given.import.provider given.interface ≡ Some found → usable_if b found ≡ Some top
    → IsTaken unit given top
taken_if unit earlier given top found false e f h = absurd (cc)
taken_if unit earlier given top found true e f h =
    let same : found ≡ top = cc in
    subst (IsTaken unit given) same (record {
      is = have_tops.is given.import.provider given.interface found f;
      others = others unit found (and_left _ _ (and_right (writes_the_basis (written found)) _
          (and_right (has_module given.import.name found) _ e)));
    })

taken_of : (unit : List ℕ) (earlier : List TyName) (given : Given) (top : Top) (o : Option Top)
    → interface_top given.import.provider given.interface ≡ o → usable_of unit earlier given.import.name o ≡ Some top
    → IsTaken unit given top
taken_of unit earlier given top None e h = absurd (cc)
taken_of unit earlier given top (Some found) e h =
    taken_if unit earlier given top found (is_usable unit earlier given.import.name found) refl e h

fits_taken : (unit : List ℕ) (given : Given) (top : Top) → IsTaken unit given top → Fits unit top
fits_taken unit given top h = record {
  of = λ k. top_may unit (below_number unit k) top (lets_below unit k) h.is.rules.tables h.others;
  rises = top_rises top h.is.rules.tables;
  closed = top_closed top h.is.rules.tables;
}

-- ---- one after another

fits_more : (unit : List ℕ) (given : Given) (top : Top) (made : Imports) → Fits unit top → Fits unit made.top
    → Fits unit (with_import given top made).top
fits_more unit given top made h k = record {
  of = λ n. of_under (below_number unit n) given.import.name.space given.import.name.name top made.top (h.of n) (k.of n);
  rises = rising_under given.import.name.space given.import.name.name top made.top h.rises k.rises;
  closed = closed_under given.import.name.space given.import.name.name top made.top h.closed k.closed;
}

fits_or : (unit : List ℕ) (given : Given) (made next : Imports) (o : Option Top)
    → usable_top unit made.names given ≡ o → imported_or unit given o made ≡ Ok next → Fits unit made.top
    → Fits unit next.top
fits_or unit given made next None e h k = absurd (cc)
fits_or unit given made next (Some top) e h k =
    let same : with_import given top made ≡ next = cc in
    subst (λ (m : Imports). Fits unit m.top) same
    (fits_more unit given top made (fits_taken unit given top (taken_of unit made.names given top _ refl e)) k)

fits_then : (unit : List ℕ) (given : Given) (later : List Given) (made final : Imports) (r : Result Imports _)
    → imported_one unit given made ≡ r → then r (λ next. imported_after unit later next) ≡ Ok final
    → ((next : Imports) → imported_after unit later next ≡ Ok final → Fits unit next.top → Fits unit final.top)
    → Fits unit made.top → Fits unit final.top
fits_then unit given later made final (Err d) e h more k = absurd (cc)
fits_then unit given later made final (Ok next) e h more k = more next h (fits_or unit given made next _ refl e k)

fits_after : (unit : List ℕ) (imports : List Given) (made final : Imports) → imported_after unit imports made ≡ Ok final
    → Fits unit made.top → Fits unit final.top
fits_after unit [] made final h k =
    let same : made ≡ final = cc in
    subst (λ (m : Imports). Fits unit m.top) same k
fits_after unit (given ∷ later) made final h k =
    fits_then unit given later made final (imported_one unit given made) refl h
    (λ next e f. fits_after unit later next final e f) k

fits_nothing : (unit : List ℕ) → Fits unit empty_top
fits_nothing unit = record {
  of = λ k. record {
    env = has_nothing (SchemeOf (below_number unit k)) (FunctionOf (below_number unit k));
    signatures = tt;
    functors = tt;
    funsigs = tt;
  };
  rises = record {
    env = (refl, tt, (refl, tt), refl);
    signatures = (refl, tt);
    functors = (refl, tt);
    funsigs = (refl, tt);
  };
  closed = record {
    env = has_nothing IsClosedScheme IsClosedFunction;
    signatures = tt;
    functors = tt;
    funsigs = tt;
  };
}

-- ---- what is given

given_top : (unit : List ℕ) (top : Top) (st : Progress) → Fits unit top → MayBeGiven unit empty_top st
    → MayBeGiven unit top st
given_top unit top st h k = record {
  below = h.of st.names;
  state = k.state;
  rises = h.rises;
  closed = h.closed;
}

pub imports_may_be_given : ImportsMayBeGiven
imports_may_be_given = record {
  given = λ unit st imports made e k.
      given_top unit made.top st (fits_after unit imports no_imports made e (fits_nothing unit)) k;
}
