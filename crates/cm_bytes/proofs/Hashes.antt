-- Facts on hashes and their names.
use Rattle.std.proofs.Common.{zero, suc, slice_index, ◌≡◌, ℕ, ◌*◌, List, ◌++◌, length, slice_index, Ok, refl, ap, ◌∙◌, arith}
use Rattle.std.specs.List.{Contains}
use Rattle.std.proofs.lemmas.List.Elements.{Contains-append_left, Contains-append_right}
use Rattle.sha2.specs.Sha256.{sha256, digest_bytes}
use Rattle.sha2.proofs.Facts256.{length-sha256}
use Rattle.hex.specs.Hex.{encode_lower, lower_digits, decode_of}
use Rattle.hex.proofs.HexLemmas.{length-encode_with, decode_of-encode_lower, decode_of-same}
use Rattle.cm_base.specs.declared.record.Pid.{Pid}
use Rattle.std.specs.Int.{w32, to_be_bytes}
use Rattle.cm_bytes.specs.Fields.{IsBytes}
use Rattle.cm_bytes.proofs.Fields.{IsBytes-nil, IsBytes-append, IsBytes-to_be_bytes}
use Rattle.cm_bytes.specs.Hashes.{hash_of, pid_text, HashesApart}

pub hash_of-bytes : (bytes : List ℕ) → (hash_of bytes).bytes ≡ sha256 bytes
unfolding hash_of
hash_of-bytes bytes = refl

-- a hash has 32 bytes
pub length-hash_of : (bytes : List ℕ) → length (hash_of bytes).bytes ≡ 32
length-hash_of bytes = ap length (hash_of-bytes bytes) ∙ length-sha256 bytes

IsBytes-digest_bytes : (words : List ℕ) (n : ℕ) → IsBytes (digest_bytes words n)
unfolding digest_bytes
IsBytes-digest_bytes words zero = IsBytes-nil
IsBytes-digest_bytes words (suc n) =
    IsBytes-append (digest_bytes words n) (to_be_bytes w32 (slice_index words n))
    (IsBytes-digest_bytes words n) (IsBytes-to_be_bytes (slice_index words n))

pub IsBytes-hash_of : (bytes : List ℕ) → IsBytes (hash_of bytes).bytes
unfolding hash_of sha256
IsBytes-hash_of bytes = IsBytes-digest_bytes _ 8

-- a hash's name has two digits for each byte
pub length-pid_text : (pid : Pid) → length (pid_text pid) ≡ 2 * length pid.bytes
unfolding pid_text
length-pid_text pid = length-encode_with lower_digits pid.bytes

pub length-name_of_hash : (bytes : List ℕ) → length (pid_text (hash_of bytes)) ≡ 64
length-name_of_hash bytes = omega (arith, length-pid_text (hash_of bytes), length-hash_of bytes)

-- hashes of one name are one hash
pub pid_text-injective : (a b : Pid) → IsBytes a.bytes → IsBytes b.bytes → pid_text a ≡ pid_text b → a ≡ b
unfolding pid_text
pid_text-injective a b f g e =
    let read : decode_of (encode_lower a.bytes) ≡ Ok b.bytes =
    ap decode_of e ∙ decode_of-encode_lower b.bytes g.below in
    let same : a.bytes ≡ b.bytes =
    decode_of-same (encode_lower a.bytes) a.bytes b.bytes (decode_of-encode_lower a.bytes f.below) read in
    ap (λ (bytes : List ℕ). let made : Pid = record { bytes = bytes } in made) same

-- texts whose hashes have one name have one hash
pub same_hash_from_name : (a b : List ℕ) → pid_text (hash_of a) ≡ pid_text (hash_of b) → hash_of a ≡ hash_of b
same_hash_from_name a b e = pid_text-injective (hash_of a) (hash_of b) (IsBytes-hash_of a) (IsBytes-hash_of b) e

-- a part of texts with hashes apart has hashes apart
pub HashesApart-part : (part whole : List (List ℕ)) → ((a : List ℕ) → Contains part a → Contains whole a)
    → HashesApart whole → HashesApart part
HashesApart-part part whole within h = record { apart = λ a b x y e. h.apart a b (within a x) (within b y) e }

pub HashesApart-append_left : (xs ys : List (List ℕ)) → HashesApart (xs ++ ys) → HashesApart xs
HashesApart-append_left xs ys h = HashesApart-part xs (xs ++ ys) (λ a x. Contains-append_left xs ys a x) h

pub HashesApart-append_right : (xs ys : List (List ℕ)) → HashesApart (xs ++ ys) → HashesApart ys
HashesApart-append_right xs ys h = HashesApart-part ys (xs ++ ys) (λ a y. Contains-append_right xs ys a y) h
