-- Fields one behind the other, to the end of a row.
use Rattle.std.proofs.Common.{◌≡◌, ◌≢◌, ℕ, refl, sym, ap, ◌∙◌, List, [], ◌∷◌, length, map, subst, Option, Some, None, Bool, true, false}
use Rattle.std.specs.Prelude.{IsTrue, IfOk, Result, Ok, Err}
use Rattle.std.proofs.lemmas.List.{length-map}
use Rattle.cm_base.specs.declared.fault.NoMemory.{NoMemory}
use Rattle.node_bytes.specs.Nodes.{Node, Content}
use Rattle.node_bytes.specs.Shapes.{with_number, with_text, with_list}
use Rattle.node_bytes.specs.Tables.{content_of}
use Rattle.node_bytes.specs.declared.table.Item.{Item}
use Rattle.node_bytes.specs.declared.table.Item.TheVariants as item
use Rattle.interface_format.specs.Tags.{bool_byte, with_named, with_value}
use Rattle.interface_format.specs.Rules.{IsNumber}
use Rattle.interface_format.proofs.Told.{Told, number_then_told, part_told, list_told, named_told, value_told, text_rest, marks_told}
use Rattle.row_fields.specs.Taking.{Begins, NeverBegins, Takes, IsAny, IsText, itself}
use Rattle.row_fields.specs.Owning.{TakesOwned}
use Rattle.row_fields.specs.Listing.{each_of, AreItems, HasName, IsValueName}
use Rattle.interface_nodes.specs.declared.fields.NamedPlace.{NamedPlace}
use Rattle.interface_nodes.specs.declared.fields.ValuePlace.{ValuePlace}
use Rattle.interface_nodes.specs.Fields.{row_at, value_at, rows_at, values_at}
use Rattle.row_forms.specs.Forms.{with_both, AreBoth, IsForm, NeverForm, with_marks, AreMarks, SpellMarks, FitsEnv, with_env, env_at, FitsUnit, with_unit, unit_at}

-- equal contents have equal fields, where these fit
abbrev pub TellsFitting : {A : Type 0} → (A → Type 0) → (A → Content → Content) → Type 0
TellsFitting {A} Fits with_item = (x y : A) (c d : Content) → Fits x → Fits y → with_item x c ≡ with_item y d
    → Told with_item x y c d

pub tells_number : TellsFitting IsNumber with_number
tells_number x y c d h k e = number_then_told x y c d h k e

pub tells_part : TellsFitting IsAny Content.part
tells_part x y c d h k e = part_told x y c d e

pub tells_table : TellsFitting (AreItems HasName) (with_list with_named)
tells_table x y c d h k e = list_told with_named named_told x y c d h.counted k.counted e

pub tells_values : TellsFitting (AreItems IsValueName) (with_list with_value)
tells_values x y c d h k e = list_told with_value value_told x y c d h.counted k.counted e

pub tells_marks : TellsFitting AreMarks with_marks
tells_marks x y c d h k e =
    let t = text_rest (map bool_byte x) (map bool_byte y) c d e in
    record { item = marks_told x y t.item; rest = t.rest }

nothing_left : (made : List Node) (items : List Item) → content_of made items ≡ Content.nothing → items ≡ []
nothing_left made [] e = refl
nothing_left made (item.Piece text ∷ items) e = absurd (cc)
nothing_left made (item.Part p ∷ items) e = absurd (cc)

-- ---- no such fields

-- the first field isn't there
pub first_lacks : {A B : Type 0} (First : A → Type 0) (Second : B → Type 0) (wa : A → Content → Content)
    (wb : B → Content → Content) (items : List Item) → NeverBegins First wa items
    → NeverForm (AreBoth First Second) (with_both wa wb) items
first_lacks First Second wa wb items h = record {
  never = λ made p f e. h.never made p.0 (wb p.1 Content.nothing) f.first e;
}

-- the first field is there, and the others aren't
pub rest_lacks : {X A B : Type 0} (value : List Node → X → A) (First : A → Type 0) (Second : B → Type 0)
    (wa : A → Content → Content) (wb : B → Content → Content) (x : X) (items rest : List Item)
    → TellsFitting First wa → ((made : List Node) → Begins First wa made (value made x) items rest)
    → NeverForm Second wb rest → NeverForm (AreBoth First Second) (with_both wa wb) items
rest_lacks value First Second wa wb x items rest tells h k = record {
  never = λ made p f e.
      k.never made p.1 f.second
      (tells (value made x) p.0 (content_of made rest) (wb p.1 Content.nothing) ((h made).fits) f.first
      (sym ((h made).is) ∙ e)).rest;
}

-- the last field isn't there
pub last_lacks : {A : Type 0} (Fits : A → Type 0) (w : A → Content → Content) (items : List Item)
    → NeverBegins Fits w items → NeverForm Fits w items
last_lacks Fits w items h = record { never = λ made x f e. h.never made x Content.nothing f e }

-- more stands behind the last field
pub more_left : {X A : Type 0} (value : List Node → X → A) (Fits : A → Type 0) (w : A → Content → Content) (x : X)
    (items rest : List Item) → TellsFitting Fits w
    → ((made : List Node) → Begins Fits w made (value made x) items rest) → rest ≢ [] → NeverForm Fits w items
more_left value Fits w x items rest tells h more = record {
  never = λ made y f e.
      more (nothing_left made rest
      (tells (value made x) y (content_of made rest) Content.nothing ((h made).fits) f (sym ((h made).is) ∙ e)).rest);
}

-- ---- all fields

pub last_is : {X A : Type 0} (value : List Node → X → A) (Fits : A → Type 0) (w : A → Content → Content) (x : X)
    (items rest : List Item) → ((made : List Node) → Begins Fits w made (value made x) items rest) → rest ≡ []
    → (made : List Node) → IsForm Fits w made (value made x) items
last_is value Fits w x items rest h e made = record {
  fits = (h made).fits;
  is = (h made).is ∙ ap (λ (z : List Item). w (value made x) (content_of made z)) e;
}

pub both_are : {X A Y B : Type 0} (value : List Node → X → A) (others : List Node → Y → B) (First : A → Type 0)
    (Second : B → Type 0) (wa : A → Content → Content) (wb : B → Content → Content) (x : X) (y : Y)
    (items rest : List Item) → ((made : List Node) → Begins First wa made (value made x) items rest)
    → ((made : List Node) → IsForm Second wb made (others made y) rest)
    → (made : List Node) → IsForm (AreBoth First Second) (with_both wa wb) made (value made x, others made y) items
both_are value others First Second wa wb x y items rest h k made = record {
  fits = record { first = (h made).fits; second = (k made).fits };
  is = (h made).is ∙ ap (wa (value made x)) ((k made).is);
}

-- ---- what tests say

pub not_end : {P : Type 0} (b : Bool) → (IsTrue b → P) × (P → IsTrue b) → b ≡ false → P → ⊥
not_end true h e p = absurd (cc)
not_end false h e p = no_truth (h.1 p)
  where
    no_truth : IsTrue false → ⊥
    no_truth k = cc

pub is_end : {P : Type 0} (b : Bool) → (IsTrue b → P) × (P → IsTrue b) → b ≡ true → P
is_end true h e = h.0 refl
is_end false h e = absurd (cc)

pub none_begins : {X A : Type 0} (value : List Node → X → A) (Fits : A → Type 0) (with_item : A → Content → Content)
    (found : Option X) (items rest : List Item) → Takes value Fits with_item found items rest
    → ((x : X) → found ≡ Some x → ⊥) → NeverBegins Fits with_item items
none_begins value Fits with_item (Some x) items rest h none = absurd (none x refl)
none_begins value Fits with_item None items rest h none = h

-- the fields stand at the start
pub at_start : {A : Type 0} (Fits : A → Type 0) (w : A → Content → Content) (start items : List Item) → start ≡ items
    → NeverForm Fits w start → NeverForm Fits w items
at_start Fits w start items e h = subst (NeverForm Fits w) e h

pub form_at_start : {X A : Type 0} (value : List Node → X → A) (Fits : A → Type 0) (w : A → Content → Content) (x : X)
    (start items : List Item) → start ≡ items → ((made : List Node) → IsForm Fits w made (value made x) start)
    → (made : List Node) → IsForm Fits w made (value made x) items
form_at_start value Fits w x start items e h made = subst (IsForm Fits w made (value made x)) e (h made)

-- ---- tables one behind the other

abbrev pub Tabled : List NamedPlace → List Item → List Item → Type 0
Tabled table items rest =
    (made : List Node) → Begins (AreItems HasName) (with_list with_named) made (each_of row_at made table) items rest

abbrev pub Valued : List ValuePlace → List Item → List Item → Type 0
Valued table items rest =
    (made : List Node) → Begins (AreItems IsValueName) (with_list with_value) made (each_of value_at made table) items rest

abbrev pub NoTable : List Item → Type 0
NoTable items = NeverBegins (AreItems HasName) (with_list with_named) items

abbrev pub NoValues : List Item → Type 0
NoValues items = NeverBegins (AreItems IsValueName) (with_list with_value) items

pub no_table : (found : Option (List NamedPlace)) (items rest : List Item)
    → Takes (each_of row_at) (AreItems HasName) (with_list with_named) found items rest
    → ((table : List NamedPlace) → found ≡ Some table → ⊥) → NoTable items
no_table found items rest h none =
    none_begins (each_of row_at) (AreItems HasName) (with_list with_named) found items rest h none

pub no_values : (found : Option (List ValuePlace)) (items rest : List Item)
    → Takes (each_of value_at) (AreItems IsValueName) (with_list with_value) found items rest
    → ((table : List ValuePlace) → found ≡ Some table → ⊥) → NoValues items
no_values found items rest h none =
    none_begins (each_of value_at) (AreItems IsValueName) (with_list with_value) found items rest h none

pub table_lacks : {B : Type 0} (Second : B → Type 0) (wb : B → Content → Content) (items : List Item) → NoTable items
    → NeverForm (AreBoth (AreItems HasName) Second) (with_both (with_list with_named) wb) items
table_lacks Second wb items h = first_lacks (AreItems HasName) Second (with_list with_named) wb items h

pub behind_table : {B : Type 0} (Second : B → Type 0) (wb : B → Content → Content) (table : List NamedPlace)
    (items rest : List Item) → Tabled table items rest → NeverForm Second wb rest
    → NeverForm (AreBoth (AreItems HasName) Second) (with_both (with_list with_named) wb) items
behind_table Second wb table items rest h k =
    rest_lacks (each_of row_at) (AreItems HasName) Second (with_list with_named) wb table items rest tells_table h k

pub last_table_lacks : (items : List Item) → NoTable items → NeverForm (AreItems HasName) (with_list with_named) items
last_table_lacks items h = last_lacks (AreItems HasName) (with_list with_named) items h

pub more_behind : (table : List NamedPlace) (items rest : List Item) → Tabled table items rest → rest ≢ []
    → NeverForm (AreItems HasName) (with_list with_named) items
more_behind table items rest h k =
    more_left (each_of row_at) (AreItems HasName) (with_list with_named) table items rest tells_table h k

-- ---- marks

pub marks_taken : (text : List ℕ) (found : Result (Option (List Bool)) NoMemory) (items rest : List Item)
    → ((made : List Node) → Begins IsText with_text made text items rest) → IfOk found (SpellMarks text)
    → TakesOwned itself AreMarks with_marks found items rest
marks_taken text (Ok (Some marks)) items rest h e = λ made. record {
  fits = record {
    counted = subst IsNumber (ap length e ∙ length-map marks bool_byte) ((h made).fits);
  };
  is = (h made).is ∙ ap (λ (z : List ℕ). with_text z (content_of made rest)) e;
}
marks_taken text (Ok None) items rest h never = record {
  never = λ made x c f e.
      never x (text_rest text (map bool_byte x) (content_of made rest) c (sym ((h made).is) ∙ e)).item;
}
marks_taken text (Err e) items rest h k = tt

pub marks_never : (items : List Item) → NeverBegins IsText with_text items → NeverBegins AreMarks with_marks items
marks_never items h = record {
  never = λ made x c f e.
      h.never made (map bool_byte x) c (subst IsNumber (sym (length-map x bool_byte)) f.counted) e;
}

-- ---- all tables

pub lists_are : (ss ts : List NamedPlace) (vs : List ValuePlace) (a b c d : List Item) → Tabled ss a b → Tabled ts b c
    → Valued vs c d → d ≡ [] → (made : List Node)
    → IsForm FitsEnv with_env made (env_at made (record { structures = ss; types = ts; values = vs })) a
lists_are ss ts vs a b c d h k l e made = record {
  fits = record { first = (h made).fits; second = record { first = (k made).fits; second = (l made).fits } };
  is = (h made).is
      ∙ ap (with_list with_named (rows_at made ss))
      ((k made).is
      ∙ ap (with_list with_named (rows_at made ts))
      ((l made).is ∙ ap (λ (z : List Item). with_list with_value (values_at made vs) (content_of made z)) e));
}

pub tables_are : (ss gs fs us : List NamedPlace) (a b c d rest : List Item) → Tabled ss a b → Tabled gs b c
    → Tabled fs c d → Tabled us d rest → rest ≡ [] → (made : List Node)
    → IsForm FitsUnit with_unit made
    (unit_at made (record { structures = ss; signatures = gs; functors = fs; funsigs = us })) a
tables_are ss gs fs us a b c d rest h k l m e made = record {
  fits = record {
    first = (h made).fits;
    second = record {
      first = (k made).fits;
      second = record { first = (l made).fits; second = (m made).fits };
    };
  };
  is = (h made).is
      ∙ ap (with_list with_named (rows_at made ss))
      ((k made).is
      ∙ ap (with_list with_named (rows_at made gs))
      ((l made).is
      ∙ ap (with_list with_named (rows_at made fs))
      ((m made).is ∙ ap (λ (z : List Item). with_list with_named (rows_at made us) (content_of made z)) e)));
}
