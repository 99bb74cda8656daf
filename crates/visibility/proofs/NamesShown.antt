-- The names of exports, member by member.
use Rattle.std.proofs.Common.{◌≡◌, ◌∙◌, sym, ap, ℕ, ◌+◌, ◌<◌, List, ◌∷◌, ◌++◌, append_assoc, length, drop, get_or, map}
use Rattle.std.proofs.lemmas.List.{map-append}
use Rattle.std.specs.Prelude.{flat_map}
use Rattle.cm_base.specs.declared.record.ModName.{ModName}
use Rattle.cm_conditions.proofs.TableSteps.{left_at}
use Rattle.cm_description.specs.declared.loaded.Export.{Export}

-- the names of one more member
pub names_more : (shown : ℕ → List Export) (names new : List ModName) (among : List ℕ) (i m : ℕ)
    → i < length among → m ≡ get_or among i m → new ≡ names ++ map (λ (e : Export). e.name) (shown m)
    → new ++ map (λ (e : Export). e.name) (flat_map shown (drop (i + 1) among))
    ≡ names ++ map (λ (e : Export). e.name) (flat_map shown (drop i among))
names_more shown names new among i m lt is added =
    let called = λ (e : Export). e.name in
    let rest = flat_map shown (drop (i + 1) among) in
    ap (λ xs. xs ++ map called rest) added
    ∙ append_assoc names (map called (shown m)) (map called rest)
    ∙ ap (λ xs. names ++ xs) (sym (map-append called (shown m) rest))
    ∙ sym (ap (λ left. names ++ map called (flat_map shown left)) (left_at among i m lt is))
