-- What was specified stays while more is specified.
use Rattle.std.proofs.Common.{◌≡◌, ℕ, List, [], ◌∷◌, ◌++◌, length, take, refl, ap, ap₂, ◌∙◌}
use Rattle.std.proofs.Math.Seq.{take-append_seam, take-length}
use Rattle.semantic_objects.specs.declared.entry.TypeStr.{TypeStr}
use Rattle.semantic_objects.specs.declared.entry.ValueEntry.{ValueEntry}
use Rattle.name_trails.specs.Trails.{Rows}
use Rattle.signature_specs.specs.declared.specified.Specified.{Specified}
use Rattle.signature_specs.specs.Specs.{IsFrontOf}

pub take_front : {A : Type 0} (a b c : List A) → take (length a) b ≡ a → take (length b) c ≡ b
    → take (length a) c ≡ a
take_front [] b c h k = refl
take_front (x ∷ a) [] c h k = absurd (cc)
take_front (x ∷ a) (y ∷ b) [] h k = absurd (cc)
take_front {A} (x ∷ a) (y ∷ b) (z ∷ c) h k =
    let i : take (length a) b ≡ a = cc in
    let j : take (length b) c ≡ b = cc in
    let e : y ≡ x = cc in
    let f : z ≡ y = cc in
    ap₂ (λ (w : A) ws. w ∷ ws) (f ∙ e) (take_front a b c i j)

pub take_more : {A : Type 0} (old more new : List A) → new ≡ old ++ more → take (length old) new ≡ old
take_more old more new h = ap (λ z. take (length old) z) h ∙ take-append_seam old more

pub front_itself : (made : Specified) → IsFrontOf made made
front_itself made = record {
  structures = take-length made.structures;
  types = take-length made.types;
  values = take-length made.values;
}

pub front_later : (a b c : Specified) → IsFrontOf a b → IsFrontOf b c → IsFrontOf a c
front_later a b c h k = record {
  structures = take_front a.structures b.structures c.structures h.structures k.structures;
  types = take_front a.types b.types c.types h.types k.types;
  values = take_front a.values b.values c.values h.values k.values;
}

pub front_value : (made : Specified) (new more : Rows ValueEntry) → new ≡ made.values ++ more
    → IsFrontOf made (record made { values = new })
front_value made new more e = record {
  structures = take-length made.structures;
  types = take-length made.types;
  values = take_more made.values more new e;
}

pub front_type : (made : Specified) (new more : Rows TypeStr) → new ≡ made.types ++ more
    → IsFrontOf made (record made { types = new })
front_type made new more e = record {
  structures = take-length made.structures;
  types = take_more made.types more new e;
  values = take-length made.values;
}
