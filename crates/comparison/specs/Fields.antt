-- The fields of a message's header by name, first byte and size (RFC 2131, section 2: figure 1 and table 1), in their order. The magic cookie stands
-- behind them.
use Rattle.std.specs.Prelude.{ℕ, List, [], ◌∷◌, take, drop}
use Rattle.dhcp_message.specs.Layout.{hops_at, hops_size, giaddr_at, giaddr_size}

pub record Field : Type 0 where
  -- as ASCII
  pub name : List ℕ
  pub at : ℕ
  pub size : ℕ

-- the bytes of a field
abbrev pub part : Field → List ℕ → List ℕ
part f header = take f.size (drop f.at header)

abbrev pub op : Field
op = record { name = 111 ∷ 112 ∷ []; at = 0; size = 1 }

abbrev pub htype : Field
htype = record { name = 104 ∷ 116 ∷ 121 ∷ 112 ∷ 101 ∷ []; at = 1; size = 1 }

abbrev pub hlen : Field
hlen = record { name = 104 ∷ 108 ∷ 101 ∷ 110 ∷ []; at = 2; size = 1 }

abbrev pub hops : Field
hops = record { name = 104 ∷ 111 ∷ 112 ∷ 115 ∷ []; at = hops_at; size = hops_size }

abbrev pub xid : Field
xid = record { name = 120 ∷ 105 ∷ 100 ∷ []; at = 4; size = 4 }

abbrev pub secs : Field
secs = record { name = 115 ∷ 101 ∷ 99 ∷ 115 ∷ []; at = 8; size = 2 }

abbrev pub flags : Field
flags = record { name = 102 ∷ 108 ∷ 97 ∷ 103 ∷ 115 ∷ []; at = 10; size = 2 }

abbrev pub ciaddr : Field
ciaddr = record { name = 99 ∷ 105 ∷ 97 ∷ 100 ∷ 100 ∷ 114 ∷ []; at = 12; size = 4 }

abbrev pub yiaddr : Field
yiaddr = record { name = 121 ∷ 105 ∷ 97 ∷ 100 ∷ 100 ∷ 114 ∷ []; at = 16; size = 4 }

abbrev pub siaddr : Field
siaddr = record { name = 115 ∷ 105 ∷ 97 ∷ 100 ∷ 100 ∷ 114 ∷ []; at = 20; size = 4 }

abbrev pub giaddr : Field
giaddr = record { name = 103 ∷ 105 ∷ 97 ∷ 100 ∷ 100 ∷ 114 ∷ []; at = giaddr_at; size = giaddr_size }

abbrev pub chaddr : Field
chaddr = record { name = 99 ∷ 104 ∷ 97 ∷ 100 ∷ 100 ∷ 114 ∷ []; at = 28; size = 16 }

abbrev pub sname : Field
sname = record { name = 115 ∷ 110 ∷ 97 ∷ 109 ∷ 101 ∷ []; at = 44; size = 64 }

abbrev pub file : Field
file = record { name = 102 ∷ 105 ∷ 108 ∷ 101 ∷ []; at = 108; size = 128 }

abbrev pub fields : List Field
fields = op ∷ htype ∷ hlen ∷ hops ∷ xid ∷ secs ∷ flags ∷ ciaddr ∷ yiaddr ∷ siaddr ∷ giaddr ∷ chaddr ∷ sname ∷ file ∷ []
