-- Where a room listens (own).
use Rattle.std.specs.Prelude.{◌≡◌, ℕ, List}

-- an address of this machine: the four octets of its interface, and a port
pub record Address : Type 0 where
  pub octets : List ℕ
  pub port : ℕ

-- a listener is at this port of this interface
abbrev pub IsAt : List ℕ → ℕ → Address → Type 0
IsAt octets port address = (address.octets ≡ octets) × (address.port ≡ port)
