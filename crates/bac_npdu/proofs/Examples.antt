-- Octets of whole datagrams, computed from the definitions.
use Rattle.std.proofs.Common.{◌≡◌, [], ◌∷◌, Some, None, true, false, refl}
use Rattle.std.specs.declared.cmp.Ordering.TheVariants.{Less, Greater}
use Rattle.bac_npdu.specs.Peers.{route_fits, peer_cmp}
use Rattle.bac_npdu.specs.Npdu.{destination_fits, message_fits, npdu_spelling, bvll_spelling, members_spelling}
use Rattle.bac_npdu.specs.Datagram.{frame}

-- A request on the same network: bit 2 of the control octet is set.
request_on_the_own_network : frame (record { link = []; route = None }) true (0x00 ∷ 0x05 ∷ 0x01 ∷ 0x0C ∷ 0x0C ∷ 0x00 ∷ 0x00 ∷ 0x00 ∷ 0x05 ∷ 0x19 ∷ 0x55 ∷ [])
    ≡ 0x81 ∷ 0x0A ∷ 0x00 ∷ 0x11 ∷ 0x01 ∷ 0x04 ∷ 0x00 ∷ 0x05 ∷ 0x01 ∷ 0x0C ∷ 0x0C ∷ 0x00 ∷ 0x00 ∷ 0x00 ∷ 0x05 ∷ 0x19 ∷ 0x55 ∷ []
unfolding frame bvll_spelling npdu_spelling members_spelling
request_on_the_own_network = refl

-- A response on the same network.
answer_on_the_own_network : frame (record { link = []; route = None }) false (0x60 ∷ 0x04 ∷ 0x09 ∷ []) ≡ 0x81 ∷ 0x0A ∷ 0x00 ∷ 0x09 ∷ 0x01 ∷ 0x00 ∷ 0x60 ∷ 0x04 ∷ 0x09 ∷ []
unfolding frame bvll_spelling npdu_spelling members_spelling
answer_on_the_own_network = refl

-- A response to device 2A of network 5: it is the destination, followed by hop count 255.
answer_to_a_route : frame (record { link = []; route = Some (record { network = 5; address = 0x2A ∷ [] }) }) false (0x30 ∷ 0x01 ∷ 0x0C ∷ [])
    ≡ 0x81 ∷ 0x0A ∷ 0x00 ∷ 0x0E ∷ 0x01 ∷ 0x20 ∷ 0x00 ∷ 0x05 ∷ 0x01 ∷ 0x2A ∷ 0xFF ∷ 0x30 ∷ 0x01 ∷ 0x0C ∷ []
unfolding frame bvll_spelling npdu_spelling members_spelling
answer_to_a_route = refl

-- A request from device 2A of network 5, expecting a reply.
request_from_a_route : bvll_spelling (npdu_spelling (record {
  destination = None;
  source = Some (record { network = 5; address = 0x2A ∷ [] });
  expecting = true;
  priority = 0;
  message = None;
  contents = 0x00 ∷ 0x05 ∷ 0x01 ∷ 0x0C ∷ [];
}))
    ≡ 0x81 ∷ 0x0A ∷ 0x00 ∷ 0x0E ∷ 0x01 ∷ 0x0C ∷ 0x00 ∷ 0x05 ∷ 0x01 ∷ 0x2A ∷ 0x00 ∷ 0x05 ∷ 0x01 ∷ 0x0C ∷ []
unfolding npdu_spelling bvll_spelling members_spelling
request_from_a_route = refl

-- A network layer message of a vendor: type 128, vendor 261.
message_of_a_vendor : bvll_spelling (npdu_spelling (record {
  destination = None;
  source = None;
  expecting = false;
  priority = 0;
  message = Some (record { kind = 128; vendor = Some 261 });
  contents = 0xAA ∷ [];
}))
    ≡ 0x81 ∷ 0x0A ∷ 0x00 ∷ 0x0A ∷ 0x01 ∷ 0x80 ∷ 0x80 ∷ 0x01 ∷ 0x05 ∷ 0xAA ∷ []
unfolding npdu_spelling bvll_spelling members_spelling
message_of_a_vendor = refl

-- All members at once: the hop count follows the source.
each_member_in_its_place : npdu_spelling (record {
  destination = Some (record { network = 65535; address = []; hops = 9 });
  source = Some (record { network = 258; address = 0x07 ∷ 0x08 ∷ [] });
  expecting = true;
  priority = 3;
  message =
      Some (record { kind = 1; vendor = None });
  contents = [];
})
    ≡ 0x01 ∷ 0xAF ∷ 0xFF ∷ 0xFF ∷ 0x00 ∷ 0x01 ∷ 0x02 ∷ 0x02 ∷ 0x07 ∷ 0x08 ∷ 0x09 ∷ 0x01 ∷ []
unfolding npdu_spelling members_spelling
each_member_in_its_place = refl

-- A global broadcast has an empty address.
no_address_on_all_networks : destination_fits 65535 1 ≡ false
no_address_on_all_networks = refl

-- A source on network 65,535 is not possible.
no_source_on_all_networks : route_fits (record { network = 65535; address = 0x01 ∷ [] }) ≡ false
no_source_on_all_networks = refl

-- Only types from 128 on have a vendor identifier.
no_vendor_of_a_standard_message : message_fits 127 (Some 1) ≡ false
no_vendor_of_a_standard_message = refl

link_before_route : peer_cmp (record { link = 1 ∷ []; route = Some (record { network = 5; address = 0x01 ∷ [] }) }) (record { link = 2 ∷ []; route = None }) ≡ Less
link_before_route = refl

no_route_before_a_route : peer_cmp (record { link = 1 ∷ []; route = Some (record { network = 5; address = 0x01 ∷ [] }) }) (record { link = 1 ∷ []; route = None })
    ≡ Greater
no_route_before_a_route = refl

network_before_address : peer_cmp (record { link = []; route = Some (record { network = 5; address = 0x09 ∷ [] }) })
    (record { link = []; route = Some (record { network = 6; address = 0x01 ∷ [] }) }) ≡ Less
network_before_address = refl

-- 01 00, and 01 and 02: a prefix comes first.
a_front_first : peer_cmp (record { link = []; route = Some (record { network = 5; address = 0x01 ∷ 0x00 ∷ [] }) })
    (record { link = []; route = Some (record { network = 5; address = 0x01 ∷ [] }) }) ≡ Greater
a_front_first = refl

octets_before_length : peer_cmp (record { link = []; route = Some (record { network = 5; address = 0x01 ∷ 0x00 ∷ [] }) })
    (record { link = []; route = Some (record { network = 5; address = 0x02 ∷ [] }) }) ≡ Less
octets_before_length = refl
