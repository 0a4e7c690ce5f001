-- Parts of the world that a call leaves.
use Rattle.jn_world.proofs.Common.{World, ◌≡◌, ap}

pub places-of : {S : Type 0} (a b : World S) → b ≡ record a { net = b.net; named = b.named } → b.places ≡ a.places
places-of {S} a b e = ap (λ (w : World S). w.places) e

pub clients-of : {S : Type 0} (a b : World S) → b ≡ record a { net = b.net; named = b.named } → b.clients ≡ a.clients
clients-of {S} a b e = ap (λ (w : World S). w.clients) e

pub net-places : {S : Type 0} (a b : World S) → b ≡ record a { net = b.net } → b.places ≡ a.places
net-places {S} a b e = ap (λ (w : World S). w.places) e

pub net-clients : {S : Type 0} (a b : World S) → b ≡ record a { net = b.net } → b.clients ≡ a.clients
net-clients {S} a b e = ap (λ (w : World S). w.clients) e
