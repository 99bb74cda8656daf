-- Hashes of texts, and their names: the hash of a text is its SHA-256 (FIPS 180-4).
use Rattle.std.specs.Prelude.{◌≡◌, ℕ, List}
use Rattle.std.specs.List.{Contains}
use Rattle.sha2.specs.Sha256.{sha256}
use Rattle.hex.specs.Hex.{encode_lower}
use Rattle.cm_base.specs.declared.record.Pid.{Pid}

-- the SHA-256 of some bytes (FIPS 180-4)
unfoldable pub hash_of : List ℕ → Pid
hash_of bytes = record { bytes = sha256 bytes }

-- the name of a hash: 64 hex digits, in lower case
unfoldable pub pid_text : Pid → List ℕ
pid_text pid = encode_lower pid.bytes

-- no two differing texts of the list have one hash
pub record HashesApart (texts : List (List ℕ)) : Type 0 where
  pub apart : (a b : List ℕ) → Contains texts a → Contains texts b → hash_of a ≡ hash_of b → a ≡ b
