-- Linking units of which each provider stands before its users gives places of earlier units alone.
use Rattle.std.proofs.Common.{◌≡◌, ℕ, zero, suc, ◌+◌, ◌^◌, ◌<◌, Bool, true, false, cond, List, [], ◌∷◌, map, length, All, Option, Some, None, refl, sym, ap, subst, ◌∙◌, arith, nat_eq}
use Rattle.std.specs.Prelude.{slice_get}
use Rattle.std.specs.Option.{option_map, option_or, unwrap_or}
use Rattle.std.specs.Cmp.Lexicographic.{pointwise, nat_list_eq_equiv, same_text}
use Rattle.std.proofs.lemmas.Option.{slice_get-map}
use Rattle.std.proofs.lemmas.List.Elements.{All-nil, All-cons, All-head, All-tail}
use Rattle.cm_base.specs.declared.record.Import.{Import}
use Rattle.cm_base.specs.declared.record.BuiltUnit.{BuiltUnit}
use Rattle.sml_syntax.specs.ReadingUnit.{IsRead}
use Rattle.linker.specs.declared.program.LinkedImport.{LinkedImport}
use Rattle.linker.specs.declared.program.LinkedUnit.{LinkedUnit}
use Rattle.linker.specs.declared.program.Linked.{Linked}
use Rattle.linker.specs.declared.program.ProgramUnit.{ProgramUnit}
use Rattle.linker.specs.declared.program.Program.{Program}
use Rattle.linker.specs.Linked.{place_from, import_at, with_places, link_of, linked_program, IsShortBuilt}
use Rattle.linker.specs.Reading.{program_of}
use Rattle.linker.specs.Programs.{coded, linked_of, ImportsEarlier, StandsBefore, ProvidersFirst}
use Rattle.linker.proofs.Spelled.{links_spelled}
use Rattle.linker.proofs.Programs.{written_again}

-- ---- the place of a unit

-- where a name has a place, a unit of that name stands there
record Stands (first : ℕ) (units : List BuiltUnit) (name : List ℕ) (place : ℕ) : Type 0 where
  pub at : ℕ
  pub unit : BuiltUnit
  pub there : slice_get units at ≡ Some unit
  pub named : unit.unit ≡ name
  pub is : place ≡ first + at

stands_later : (first : ℕ) (u : BuiltUnit) (us : List BuiltUnit) (name : List ℕ) (place : ℕ)
    → Stands (first + 1) us name place → Stands first (u ∷ us) name place
stands_later first u us name place s = record {
  at = suc s.at;
  unit = s.unit;
  there = s.there;
  named = s.named;
  is = omega (arith, s.is);
}

-- a place that was found is one, and where a unit of the name is, one is found
record Finds (first : ℕ) (units : List BuiltUnit) (name : List ℕ) (found : Option ℕ) : Type 0 where
  pub stands : (place : ℕ) → found ≡ Some place → Stands first units name place
  pub finds : (at : ℕ) (unit : BuiltUnit) → slice_get units at ≡ Some unit → unit.unit ≡ name → found ≡ None → ⊥

found_by : (same : Bool) (first : ℕ) (u : BuiltUnit) (us : List BuiltUnit) (name : List ℕ) (later : Option ℕ)
    → pointwise nat_eq u.unit name ≡ same → Finds (first + 1) us name later
    → Finds first (u ∷ us) name (option_or later (cond same (Some first) None))
found_by same first u us name (Some place) test f = record {
  stands = λ p e. stands_later first u us name p (f.stands p e);
  finds = λ at unit there named none. absurd cc;
}
found_by true first u us name None test f = record {
  stands = λ p e.
      let here : first ≡ p = cc in
      record { at = 0; unit = u; there = refl; named = same_text u.unit name (sym test); is = omega (arith, here) };
  finds = λ at unit there named none. absurd cc;
}
found_by false first u us name None test f = record {
  stands = λ p e. absurd cc;
  finds = by_place;
}
  where
    by_place : (at : ℕ) (unit : BuiltUnit) → slice_get (u ∷ us) at ≡ Some unit → unit.unit ≡ name
        → option_or None (cond false (Some first) None) ≡ None → ⊥
    by_place zero unit there named none =
        let same : u ≡ unit = cc in
        let equal : u.unit ≡ name = ap (λ (v : BuiltUnit). v.unit) same ∙ named in
        let true_is : pointwise nat_eq u.unit name ≡ true =
        ap (λ (t : List ℕ). pointwise nat_eq u.unit t) (sym equal) ∙ nat_list_eq_equiv.refl u.unit in
        absurd (let clash : true ≡ false = sym true_is ∙ test in cc)
    by_place (suc at) unit there named none = f.finds at unit there named refl

found_in : (first : ℕ) (units : List BuiltUnit) (name : List ℕ) → Finds first units name (place_from first units name)
found_in first [] name = record {
  stands = λ p e. absurd cc;
  finds = λ at unit there named none. absurd cc;
}
found_in first (u ∷ us) name =
    found_by (pointwise nat_eq u.unit name) first u us name (place_from (first + 1) us name) refl
    (found_in (first + 1) us name)

-- a name that stands before a place has its own place before it
place_before : (units : List BuiltUnit) (place : ℕ) (name : List ℕ) (found : Option ℕ) → Finds 0 units name found
    → StandsBefore units place name → unwrap_or found 0 < place
place_before units place name (Some p) f s =
    let at = f.stands p refl in
    let before = s.before at.at at.unit at.there at.named in
    omega (arith, at.is, before)
place_before units place name None f s =
    absurd (f.finds s.some.0 s.some.1 s.some.2 s.some.3 refl)

-- ---- the imports of a linked unit

imports_before : (units : List BuiltUnit) (place : ℕ) (imports : List Import)
    → All (λ (i : Import). StandsBefore units place i.provider) imports
    → All (λ (i : LinkedImport). i.from < place) (map (import_at (place_from 0 units)) imports)
imports_before units place [] h = All-nil (λ (i : LinkedImport). i.from < place)
imports_before units place (i ∷ is) h =
    All-cons (λ (i : LinkedImport). i.from < place) (import_at (place_from 0 units) i)
    (map (import_at (place_from 0 units)) is)
    (place_before units place i.provider (place_from 0 units i.provider) (found_in 0 units i.provider)
    (All-head (λ (i : Import). StandsBefore units place i.provider) i is h))
    (imports_before units place is (All-tail (λ (i : Import). StandsBefore units place i.provider) i is h))

-- the unit at a place of a list that was made of another
made_at : {A B : Type 0} (f : A → B) (found : Option A) (y : B) → option_map f found ≡ Some y
    → (x : A) × (found ≡ Some x) × (f x ≡ y)
made_at f (Some x) y e = (x, refl, cc)
made_at f None y e = absurd cc

-- a program whose codes are those of the linked units imports from earlier units alone
pub link_is_earlier : (units : List BuiltUnit) (program : Program) → ProvidersFirst units
    → linked_of program ≡ link_of units → ImportsEarlier program.units
unfolding link_of
link_is_earlier units program first same = λ place unit there.
    let place_of = place_from 0 units in
    let lists : map coded program.units ≡ map (with_places place_of) units =
    ap (λ (l : Linked). l.units) same in
    let left : slice_get (map coded program.units) place ≡ Some (coded unit) =
    slice_get-map coded program.units place
    ∙ ap (λ (o : Option ProgramUnit). option_map coded o) there in
    let right = sym (slice_get-map (with_places place_of) units place)
    ∙ sym (ap (λ (us : List LinkedUnit). slice_get us place) lists) ∙ left in
    let built = made_at (with_places place_of) (slice_get units place) (coded unit) right in
    let imports = imports_before units place built.0.imports (first place built.0 built.1) in
    subst (λ (u : LinkedUnit). All (λ (i : LinkedImport). i.from < place) u.imports) built.2 imports

-- what is linked of short units whose providers stand first and whose codes are codes is read as it
pub link_is_read : (units : List BuiltUnit) (program : Program) → length units < 2 ^ 32 → All IsShortBuilt units
    → ProvidersFirst units → linked_of program ≡ link_of units
    → All (λ (unit : ProgramUnit). IsRead unit.code) program.units
    → program_of (linked_program units) ≡ Some program
link_is_read units program lt short first same codes =
    written_again (link_of units) program (links_spelled units lt short) same codes
    (link_is_earlier units program first same)
