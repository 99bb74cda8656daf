-- What is loaded from a good store is what the compiler would make; and there whether a unit is stale hangs on its binfile
-- alone.
use Rattle.std.proofs.Common.{◌≡◌, ◌∙◌, sym, ap, ap₂, subst, refl, ℕ, Bool, true, false, ◌&&◌, List, [], ◌∷◌, Option, Some, None}
use Rattle.std.specs.Prelude.{Ok, nat_eq, is_some}
use Rattle.std.specs.List.{AllByRecursion}
use Rattle.std.specs.FinMap.{get}
use Rattle.std.specs.Cmp.Lexicographic.{same_text, nat_list_eq_equiv}
use Rattle.std.proofs.lemmas.List.Elements.{recursion_from_All}
use Rattle.std.proofs.lemmas.Bool.{eqb-true, eq-eqb}
use lib.Pointwise.{pointwise}
use Rattle.cm_base.specs.Definitions.{Definitions}
use Rattle.cm_base.specs.Files.{Files}
use Rattle.cm_base.specs.declared.record.Namespace.{Namespace}
use Rattle.cm_base.specs.declared.record.Namespace.TheVariants as space
use Rattle.cm_base.specs.declared.record.Options.{Options}
use Rattle.cm_base.specs.declared.record.Import.{Import}
use Rattle.cm_base.specs.declared.record.CompileInput.{CompileInput}
use Rattle.cm_base.specs.declared.record.Compiled.{Compiled}
use Rattle.cm_base.specs.declared.record.Given.{Given}
use Rattle.cm_base.specs.declared.record.BuiltUnit.{BuiltUnit}
use Rattle.cm_base.specs.declared.record.How.TheVariants as how
use Rattle.cm_base.specs.declared.record.PlannedUnit.{PlannedUnit}
use Rattle.cm_bytes.specs.Fields.{space_byte}
use Rattle.cm_bytes.specs.Hashes.{hash_of, HashesApart}
use Rattle.bin_formats.specs.declared.bin.Bin.{Bin}
use Rattle.bin_formats.specs.Format.{binfile, interface_file}
use Rattle.bin_store.specs.Paths.{bin_path, interface_path}
use Rattle.bin_store.specs.Stored.{stored_bin, stored_interface}
use Rattle.bin_store.specs.GoodStore.{bin_of, IsKnown, IsGoodBin, IsGoodStore}
use Rattle.bin_store.proofs.StoredBins.{bin_is_whole, bin_unit, good_bin_stored}
use Rattle.bin_store.proofs.StoredLaws.{stored-whole}
use Rattle.build_laws.specs.Inputs.{imports_in, input_of}
use Rattle.build_laws.specs.Stale.{HasKey, same_flag, same_options, same_import, same_imports, same_key, loaded_unit, with_text, by_key, of_bin, loaded, marked_unit}
use Rattle.build_laws.specs.Storing.{bin_of_unit}
use Rattle.build_laws.proofs.Made.{IsMade, made_unit}

-- ---- the test of a key means what it says

both : (a b : Bool) → (a && b) ≡ true → (a ≡ true) × (b ≡ true)
both true b h = (refl, h)
both false b h = cc

flag_is : (a b : Bool) → same_flag a b ≡ true → a ≡ b
flag_is true b h = sym h
flag_is false true h = cc
flag_is false false h = refl

options_are : (a b : Options) → same_options a b ≡ true → a ≡ b
options_are a b h =
    let two = both (same_flag a.nobasis b.nobasis) (same_flag a.opaque b.opaque) h in
    ap₂ (λ x y. let made : Options = record { nobasis = x; opaque = y } in made)
    (flag_is a.nobasis b.nobasis two.0) (flag_is a.opaque b.opaque two.1)

space_is : (a b : Namespace) → space_byte a ≡ space_byte b → a ≡ b
space_is space.Structure space.Structure h = refl
space_is space.Structure space.Signature h = cc
space_is space.Structure space.Functor h = cc
space_is space.Structure space.Funsig h = cc
space_is space.Signature space.Structure h = cc
space_is space.Signature space.Signature h = refl
space_is space.Signature space.Functor h = cc
space_is space.Signature space.Funsig h = cc
space_is space.Functor space.Structure h = cc
space_is space.Functor space.Signature h = cc
space_is space.Functor space.Functor h = refl
space_is space.Functor space.Funsig h = cc
space_is space.Funsig space.Structure h = cc
space_is space.Funsig space.Signature h = cc
space_is space.Funsig space.Functor h = cc
space_is space.Funsig space.Funsig h = refl

text_is : (a b : List ℕ) → pointwise nat_eq a b ≡ true → a ≡ b
text_is a b h = same_text a b (sym h)

abbrev import_with : Namespace → List ℕ → List ℕ → List ℕ → Import
import_with s name provider hash =
    record { name = record { space = s; name = name }; provider = provider; hash = record { bytes = hash } }

pub import_is : (a b : Import) → same_import a b ≡ true → a ≡ b
import_is a b h =
    let one = both (nat_eq (space_byte a.name.space) (space_byte b.name.space)) _ h in
    let two = both (pointwise nat_eq a.name.name b.name.name) _ one.1 in
    let three = both (pointwise nat_eq a.provider b.provider) _ two.1 in
    ap (λ s. import_with s a.name.name a.provider a.hash.bytes)
    (space_is a.name.space b.name.space (eqb-true (space_byte a.name.space) (space_byte b.name.space) one.0))
    ∙ ap (λ n. import_with b.name.space n a.provider a.hash.bytes) (text_is a.name.name b.name.name two.0)
    ∙ ap (λ p. import_with b.name.space b.name.name p a.hash.bytes) (text_is a.provider b.provider three.0)
    ∙ ap (λ x. import_with b.name.space b.name.name b.provider x) (text_is a.hash.bytes b.hash.bytes three.1)

imports_are : (xs ys : List Import) → same_imports xs ys ≡ true → xs ≡ ys
imports_are [] [] h = refl
imports_are [] (y ∷ ys) h = cc
imports_are (x ∷ xs) [] h = cc
imports_are (x ∷ xs) (y ∷ ys) h =
    let two = both (same_import x y) (same_imports xs ys) h in
    ap₂ (λ z zs. z ∷ zs) (import_is x y two.0) (imports_are xs ys two.1)

pub key_is : (bin : Bin) (options : Options) (source : List ℕ) (imports : List Import)
    → same_key bin options source imports ≡ true → HasKey bin options source imports
unfolding same_key
key_is bin options source imports h =
    let one = both (same_options bin.options options) (pointwise nat_eq bin.source source && same_imports bin.imports imports) h in
    let two = both (pointwise nat_eq bin.source source) (same_imports bin.imports imports) one.1 in
    record {
      options_are = options_are bin.options options one.0;
      source_is = text_is bin.source source two.0;
      imports_are = imports_are bin.imports imports two.1;
    }

-- .. and holds of a key that is the same
flag_same : (b : Bool) → same_flag b b ≡ true
flag_same true = refl
flag_same false = refl

pub import_same : (a : Import) → same_import a a ≡ true
import_same a =
    ap₂ (λ x y. x && y) (eq-eqb (space_byte a.name.space) (space_byte a.name.space) refl)
    (ap₂ (λ x y. x && y) (nat_list_eq_equiv.refl a.name.name)
    (ap₂ (λ x y. x && y) (nat_list_eq_equiv.refl a.provider) (nat_list_eq_equiv.refl a.hash.bytes)))

imports_same : (xs : List Import) → same_imports xs xs ≡ true
imports_same [] = refl
imports_same (x ∷ xs) = ap₂ (λ a b. a && b) (import_same x) (imports_same xs)

pub key_of : (bin : Bin) (options : Options) (source : List ℕ) (imports : List Import)
    → HasKey bin options source imports → same_key bin options source imports ≡ true
unfolding same_key
key_of bin options source imports has =
    ap₂ (λ x y. x && y)
    (ap (same_options bin.options) (sym has.options_are)
    ∙ ap₂ (λ x y. x && y) (flag_same bin.options.nobasis) (flag_same bin.options.opaque))
    (ap₂ (λ x y. x && y) (ap (pointwise nat_eq bin.source) (sym has.source_is) ∙ nat_list_eq_equiv.refl bin.source)
    (ap (same_imports bin.imports) (sym has.imports_are) ∙ imports_same bin.imports))

-- ---- where a unit is loaded from

-- a binfile that has its key, and its interface
record LoadedFrom (files : Files) (unit : List ℕ) (options : Options) (source : List ℕ) (imports : List Import)
    (u : BuiltUnit) : Type 0 where
  bin : Bin
  text : List ℕ
  stored : stored_bin files unit ≡ Some bin
  key : HasKey bin options source imports
  there : stored_interface files bin.interface ≡ Some text
  unit_is : u ≡ loaded_unit bin text

loaded_from : (files : Files) (unit : List ℕ) (options : Options) (source : List ℕ) (imports : List Import) (u : BuiltUnit)
    → loaded files unit options source imports ≡ Some u → LoadedFrom files unit options source imports u
unfolding loaded
loaded_from files unit options source imports u is = by_bin (stored_bin files unit) refl is
  where
    by_text : (bin : Bin) (text : Option (List ℕ)) → stored_bin files unit ≡ Some bin → HasKey bin options source imports
        → stored_interface files bin.interface ≡ text → with_text bin text ≡ Some u
        → LoadedFrom files unit options source imports u
    by_text bin None stored key there is = cc
    by_text bin (Some text) stored key there is =
        let same : loaded_unit bin text ≡ u = cc in
        record { bin = bin; text = text; stored = stored; key = key; there = there; unit_is = sym same }

    by_test : (bin : Bin) (b : Bool) → stored_bin files unit ≡ Some bin → same_key bin options source imports ≡ b
        → by_key files bin b ≡ Some u → LoadedFrom files unit options source imports u
    by_test bin true stored key is =
        by_text bin (stored_interface files bin.interface) stored (key_is bin options source imports key) refl is
    by_test bin false stored key is = cc

    by_bin : (o : Option Bin) → stored_bin files unit ≡ o → of_bin files options source imports o ≡ Some u
        → LoadedFrom files unit options source imports u
    by_bin None stored is = cc
    by_bin (Some bin) stored is = by_test bin (same_key bin options source imports) stored refl is

-- a unit that is loaded says so
pub loaded_how : (files : Files) (unit : List ℕ) (options : Options) (source : List ℕ) (imports : List Import) (u : BuiltUnit)
    → loaded files unit options source imports ≡ Some u → u.how ≡ how.Loaded
loaded_how files unit options source imports u is =
    ap (λ (b : BuiltUnit). b.how) (loaded_from files unit options source imports u is).unit_is

-- whether a binfile has this key, where there is one
abbrev pub fresh_of : Options → List ℕ → List Import → Option Bin → Bool
fresh_of options source imports None = false
fresh_of options source imports (Some bin) = same_key bin options source imports

-- ---- in a good store it is what the compiler makes

pub record IsAsMade (by : Definitions) (texts : List (List ℕ)) (files : Files) (p : PlannedUnit) (givens : List Given)
    (u : BuiltUnit) : Type 0 where
  pub made : Compiled
  pub is : IsMade by.compiled texts p givens made
  pub unit_is : u ≡ marked_unit true (made_unit p givens made)
  pub bin_stands : get files (bin_path p.unit) ≡ Some (binfile (bin_of_unit p (made_unit p givens made)))
  pub text_stands : get files (interface_path (hash_of made.interface)) ≡ Some (interface_file made.interface)

module _ (by : Definitions) (texts : List (List ℕ)) (files : Files) (good : IsGoodStore by texts files)
    (apart : HashesApart texts) where
  given_is : (a b : Given) → IsKnown texts a → IsKnown texts b → a.import ≡ b.import → a ≡ b
  given_is a b x y same =
      let text : a.interface ≡ b.interface = apart.apart a.interface b.interface x.known y.known
      (sym x.hash ∙ ap (λ (i : Import). i.hash) same ∙ y.hash) in
      ap₂ (λ i t. let made : Given = record { import = i; interface = t } in made) same text

  givens_are : (xs ys : List Given) → AllByRecursion (IsKnown texts) xs → AllByRecursion (IsKnown texts) ys
      → imports_in xs ≡ imports_in ys → xs ≡ ys
  givens_are [] [] all more same = refl
  givens_are [] (y ∷ ys) all more same = cc
  givens_are (x ∷ xs) [] all more same = cc
  givens_are (x ∷ xs) (y ∷ ys) all more same =
      let head : x.import ≡ y.import = cc in
      let tail : imports_in xs ≡ imports_in ys = cc in
      ap₂ (λ z zs. z ∷ zs) (given_is x y all.0 more.0 head) (givens_are xs ys all.1 more.1 tail)

  -- the input of which a good binfile was made is this one, where the binfile has its key
  input_is : (p : PlannedUnit) (givens : List Given) (bin : Bin) (g : IsGoodBin by texts files bin) → bin.unit ≡ p.unit
      → HasKey bin p.options p.source (imports_in givens) → AllByRecursion (IsKnown texts) givens → g.input ≡ input_of p givens
  input_is p givens bin g name key known =
      let imports : g.input.imports ≡ givens = givens_are g.input.imports givens
      (recursion_from_All (IsKnown texts) g.input.imports g.givens) known
      (sym (ap (λ (b : Bin). b.imports) g.bin_is) ∙ key.imports_are) in
      let unit : g.input.unit ≡ p.unit = sym (ap (λ (b : Bin). b.unit) g.bin_is) ∙ name in
      let options : g.input.options ≡ p.options = sym (ap (λ (b : Bin). b.options) g.bin_is) ∙ key.options_are in
      let source : g.input.source ≡ p.source = sym (ap (λ (b : Bin). b.source) g.bin_is) ∙ key.source_is in
      ap₂ (input_with g.input.options g.input.source) unit imports
      ∙ ap₂ (λ o s. input_with o s p.unit givens) options source
    where
      input_with : Options → List ℕ → List ℕ → List Given → CompileInput
      input_with options source unit givens = record { unit = unit; options = options; source = source; imports = givens }

  pub fresh_is_made : (p : PlannedUnit) (givens : List Given) (u : BuiltUnit) → by.skel p.unit p.source ≡ Ok p.skeleton
      → AllByRecursion (IsKnown texts) givens
      → loaded files p.unit p.options p.source (imports_in givens) ≡ Some u → IsAsMade by texts files p givens u
  fresh_is_made p givens u skeleton known is =
      let from = loaded_from files p.unit p.options p.source (imports_in givens) u is in
      let bin = from.bin in
      let stands = bin_is_whole files p.unit bin from.stored in
      let g = good.bins (bin_path p.unit) stands.bytes bin stands.there stands.whole in
      let input = input_is p givens bin g (bin_unit files p.unit bin from.stored) from.key known in
      let made_is : by.compiled (input_of p givens) ≡ Ok g.made =
      subst (λ (i : CompileInput). by.compiled i ≡ Ok g.made) input g.made_is in
      let skeleton_made : by.skel p.unit p.source ≡ Ok g.skeleton =
      subst (λ (i : CompileInput). by.skel i.unit i.source ≡ Ok g.skeleton) input g.skeleton_is in
      let skeleton_is : g.skeleton ≡ p.skeleton = cc (skeleton, skeleton_made) in
      let bin_is : bin ≡ bin_of (input_of p givens) p.skeleton g.made =
      g.bin_is ∙ ap₂ (λ (i : CompileInput) s. bin_of i s g.made) input skeleton_is in
      let hash : bin.interface ≡ hash_of g.made.interface = ap (λ (b : Bin). b.interface) g.bin_is in
      let file = stored-whole files bin.interface from.text from.there in
      let text : from.text ≡ g.made.interface = apart.apart from.text g.made.interface
      (good.interfaces (interface_path bin.interface) (interface_file from.text) from.text file.0 file.2) g.known
      (sym file.1 ∙ hash) in
      record {
        made = g.made;
        is = record { made_is = made_is; givens_are = known; known = g.known; small = g.small };
        unit_is = from.unit_is ∙ ap₂ loaded_unit bin_is text;
        bin_stands = stands.there ∙ ap Some (stands.whole.spelled ∙ ap binfile bin_is);
        text_stands = subst (λ h. get files (interface_path h) ≡ Some (interface_file g.made.interface)) hash g.stands;
      }

  -- whether a unit is fresh is its binfile's matter alone: the interface of a good one is stored
  pub fresh_by_bin : (unit : List ℕ) (options : Options) (source : List ℕ) (imports : List Import)
      → is_some (loaded files unit options source imports) ≡ fresh_of options source imports (stored_bin files unit)
  unfolding loaded
  fresh_by_bin unit options source imports = by_bin (stored_bin files unit) refl
    where
      by_test : (bin : Bin) (b : Bool) → stored_bin files unit ≡ Some bin → is_some (by_key files bin b) ≡ b
      by_test bin false stored = refl
      by_test bin true stored =
          let has = good_bin_stored by texts files unit bin good stored in ap (λ o. is_some (with_text bin o)) has.stored

      by_bin : (o : Option Bin) → stored_bin files unit ≡ o
          → is_some (of_bin files options source imports o) ≡ fresh_of options source imports o
      by_bin None stored = refl
      by_bin (Some bin) stored = by_test bin (same_key bin options source imports) stored
