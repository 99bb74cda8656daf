use Rattle.std.specs.Prelude.{◌≡◌, ◌++◌, drop}
use Rattle.std.specs.List.{flat_map}
use Rattle.test_compilers.proofs.letters.interface_of.Given as goal

-- the bytes so far and the interfaces that are left are the source and all interfaces
abbrev pub invariant-loop-given : goal.invariant-loop-given
invariant-loop-given l =
    l.bytes.items ++ flat_map (λ given. given.interface) (drop l.given-index l.givens)
    ≡ l.fn.source ++ flat_map (λ given. given.interface) l.givens
