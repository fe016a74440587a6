-- The headers of UDP (RFC 768) and of DNS (RFC 1035, section 4.1.1). Each field is a big-endian
-- number of two bytes.
use Rattle.std.specs.Prelude.{ℕ, ◌++◌, List, drop}
use Rattle.scroll.specs.Numbers.{number, number_bytes}
use Rattle.scroll.specs.declared.endian.Endian.TheVariants.{Big}
use Rattle.packets.specs.declared.packet.UdpHeader.{UdpHeader}
use Rattle.packets.specs.declared.packet.DnsHeader.{DnsHeader}

-- the field at an offset
abbrev pub field : ℕ → List ℕ → ℕ
field offset s = number Big 2 (drop offset s)

-- the bytes of the headers
abbrev pub udp_bytes : UdpHeader → List ℕ
udp_bytes h = number_bytes Big 2 h.source ++ number_bytes Big 2 h.destination
    ++ number_bytes Big 2 h.len ++ number_bytes Big 2 h.checksum

abbrev pub dns_bytes : DnsHeader → List ℕ
dns_bytes h =
    number_bytes Big 2 h.id ++ number_bytes Big 2 h.flags ++ number_bytes Big 2 h.questions
    ++ number_bytes Big 2 h.answers ++ number_bytes Big 2 h.authorities
    ++ number_bytes Big 2 h.additionals
