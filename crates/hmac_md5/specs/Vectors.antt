-- RFC 2202, section 2: five of the seven test cases of HMAC-MD5, both with a key longer than a block among them. The one proof is in
-- proofs/Vectors.antt. Cases 3 and 5 differ from 1 and 4 in their bytes alone; the program digest_vectors runs 1 to 5.
use Rattle.std.specs.Prelude.{ℕ, ◌≡◌, List, [], ◌∷◌, ◌++◌, replicate}
use Rattle.octets.specs.Bytes.{up_from}
use Rattle.hmac_md5.specs.Hmac.{hmac}

-- "Hi There"
abbrev pub hi_there : List ℕ
hi_there = 72 ∷ 105 ∷ 32 ∷ 84 ∷ 104 ∷ 101 ∷ 114 ∷ 101 ∷ []

-- "Jefe"
abbrev pub jefe : List ℕ
jefe = 74 ∷ 101 ∷ 102 ∷ 101 ∷ []

-- "what do ya want for nothing?"
abbrev pub what_do_ya_want : List ℕ
what_do_ya_want =
    119 ∷ 104 ∷ 97 ∷ 116 ∷ 32 ∷ 100 ∷ 111 ∷ 32 ∷ 121 ∷ 97 ∷ 32 ∷ 119 ∷ 97 ∷ 110 ∷ 116 ∷ 32 ∷ 102 ∷ 111 ∷ 114 ∷ 32 ∷ 110 ∷ 111 ∷ 116 ∷ 104
    ∷ 105 ∷ 110 ∷ 103 ∷ 63 ∷ []

-- "Test Using Larger Than Block-Size Key"
abbrev pub larger_key : List ℕ
larger_key =
    84 ∷ 101 ∷ 115 ∷ 116 ∷ 32 ∷ 85 ∷ 115 ∷ 105 ∷ 110 ∷ 103 ∷ 32 ∷ 76 ∷ 97 ∷ 114 ∷ 103 ∷ 101 ∷ 114 ∷ 32 ∷ 84 ∷ 104 ∷ 97 ∷ 110 ∷ 32 ∷ 66
    ∷ 108 ∷ 111 ∷ 99 ∷ 107 ∷ 45 ∷ 83 ∷ 105 ∷ 122 ∷ 101 ∷ 32 ∷ 75 ∷ 101 ∷ 121 ∷ []

-- " - Hash Key First"
abbrev pub hash_first : List ℕ
hash_first =
    32 ∷ 45 ∷ 32 ∷ 72 ∷ 97 ∷ 115 ∷ 104 ∷ 32 ∷ 75 ∷ 101 ∷ 121 ∷ 32 ∷ 70 ∷ 105 ∷ 114 ∷ 115 ∷ 116 ∷ []

-- " and Larger Than One Block-Size Data"
abbrev pub larger_data : List ℕ
larger_data =
    32 ∷ 97 ∷ 110 ∷ 100 ∷ 32 ∷ 76 ∷ 97 ∷ 114 ∷ 103 ∷ 101 ∷ 114 ∷ 32 ∷ 84 ∷ 104 ∷ 97 ∷ 110 ∷ 32 ∷ 79 ∷ 110 ∷ 101 ∷ 32 ∷ 66 ∷ 108 ∷ 111 ∷ 99
    ∷ 107 ∷ 45 ∷ 83 ∷ 105 ∷ 122 ∷ 101 ∷ 32 ∷ 68 ∷ 97 ∷ 116 ∷ 97 ∷ []

pub record HmacVectors : Type 0 where
  pub case_1 : hmac (replicate 16 0x0b) hi_there
      ≡ 0x92 ∷ 0x94 ∷ 0x72 ∷ 0x7a ∷ 0x36 ∷ 0x38 ∷ 0xbb ∷ 0x1c ∷ 0x13 ∷ 0xf4 ∷ 0x8e ∷ 0xf8 ∷ 0x15 ∷ 0x8b ∷ 0xfc ∷ 0x9d ∷ []
  pub case_2 : hmac jefe what_do_ya_want
      ≡ 0x75 ∷ 0x0c ∷ 0x78 ∷ 0x3e ∷ 0x6a ∷ 0xb0 ∷ 0xb5 ∷ 0x03 ∷ 0xea ∷ 0xa8 ∷ 0x6e ∷ 0x31 ∷ 0x0a ∷ 0x5d ∷ 0xb7 ∷ 0x38 ∷ []
  pub case_4 : hmac (up_from 1 25) (replicate 50 0xcd)
      ≡ 0x69 ∷ 0x7e ∷ 0xaf ∷ 0x0a ∷ 0xca ∷ 0x3a ∷ 0x3a ∷ 0xea ∷ 0x3a ∷ 0x75 ∷ 0x16 ∷ 0x47 ∷ 0x46 ∷ 0xff ∷ 0xaa ∷ 0x79 ∷ []
  pub case_6 : hmac (replicate 80 0xaa) (larger_key ++ hash_first)
      ≡ 0x6b ∷ 0x1a ∷ 0xb7 ∷ 0xfe ∷ 0x4b ∷ 0xd7 ∷ 0xbf ∷ 0x8f ∷ 0x0b ∷ 0x62 ∷ 0xe6 ∷ 0xce ∷ 0x61 ∷ 0xb9 ∷ 0xd0 ∷ 0xcd ∷ []
  pub case_7 : hmac (replicate 80 0xaa) (larger_key ++ larger_data)
      ≡ 0x6f ∷ 0x63 ∷ 0x0f ∷ 0xad ∷ 0x67 ∷ 0xcd ∷ 0xa0 ∷ 0xee ∷ 0x1f ∷ 0xb1 ∷ 0xf5 ∷ 0x62 ∷ 0xdb ∷ 0x3a ∷ 0xa5 ∷ 0x3e ∷ []
