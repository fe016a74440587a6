-- A DNS message over UDP: the two headers, and the rest of the message. The length in the UDP
-- header counts all of it.
use Rattle.std.specs.Prelude.{◌≡◌, ℕ, List, [], ◌∷◌, Ok}
use Rattle.scroll.specs.Bytes.{RefusesShort}
use Rattle.scroll.specs.Errors.{IsBadOffset}
use Rattle.scroll.specs.History.{WritesLeaves}
use Rattle.scroll.specs.Reads.{RefusesAt}
use Rattle.scroll.specs.declared.endian.Endian.TheVariants.{Big}
use Rattle.packets.specs.Headers.{udp_bytes, dns_bytes}
use Rattle.scroll_layouts.specs.Formats.{Format}
use Rattle.scroll_layouts.specs.Wholes.{ReadsBack}
use Rattle.packets.specs.declared.packet.UdpHeader.{UdpHeader}
use Rattle.packets.specs.declared.packet.DnsHeader.{DnsHeader}
use Rattle.packets.specs.declared.packet.Packet.{Packet}
use Rattle.packets.specs.declared.packet.PacketError.{PacketError}
use Rattle.packets.specs.declared.packet.PacketError.TheVariants.{Short}

-- the packet at the start of a source, in network order, has as many bytes as its header says
pub record IsPacket (format : Format PacketError Packet) (s : List ℕ) (p : Packet) : Type 0 where
  pub size : ℕ
  pub read : ReadsBack format Big s p size
  pub whole : size ≡ p.udp.len

-- the two headers, written in their order in the packet
abbrev pub WritesHeaders : UdpHeader → DnsHeader → List ℕ → List ℕ → Type 0
WritesHeaders udp dns old new =
    (mid : List ℕ) × WritesLeaves old 0 (udp_bytes udp ∷ []) mid (Ok 8)
    × WritesLeaves mid 8 (dns_bytes dns ∷ []) new (Ok 12)

-- the error of writing them: there is no room for the message's header
abbrev pub RefusesHeaders : List ℕ → PacketError → Type 0
RefusesHeaders target (Short e) = RefusesAt (RefusesShort 12) IsBadOffset target 8 e
RefusesHeaders target e = ⊥
