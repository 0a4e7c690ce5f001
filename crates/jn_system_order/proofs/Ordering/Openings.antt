-- By which request of which client each transaction began, as the messages say.
use Rattle.jn_system_order.proofs.Common.{◌≡◌, ◌⊎◌, inl, inr, List, [], ◌∷◌, ◌++◌, Option, Some, None, refl, sym, ◌∙◌, ap, ClientNo, Tid, Transaction, Sent, RequestNo}
use Rattle.jn_msgs.specs.declared.message.Message.TheVariants as messages

pub record Opening : Type 0 where
  pub client : ClientNo
  pub request : RequestNo
  pub tid : Tid

abbrev pub opening_of : ClientNo → RequestNo → Option Tid → List Opening
opening_of c q None = []
opening_of c q (Some T) = record { client = c; request = q; tid = T } ∷ []

abbrev pub opening_in : Sent → List Opening
opening_in (to, messages.Begun c q T) = opening_of c q T
opening_in sent = []

abbrev pub openings : List Sent → List Opening
openings [] = []
openings (sent ∷ rest) = opening_in sent ++ openings rest

abbrev pub Has : Opening → List Opening → Type 0
Has o [] = ⊥
Has o (x ∷ xs) = (x ≡ o) ⊎ Has o xs

append-append : (a b c : List Opening) → (a ++ b) ++ c ≡ a ++ (b ++ c)
append-append [] b c = refl
append-append (x ∷ a) b c = ap (λ z. x ∷ z) (append-append a b c)

pub openings-more : (a b : List Sent) → openings (a ++ b) ≡ openings a ++ openings b
openings-more [] b = refl
openings-more (x ∷ a) b = ap (λ z. opening_in x ++ z) (openings-more a b) ∙ sym (append-append (opening_in x) (openings a) (openings b))

pub has-first : (o : Opening) (a b : List Opening) → Has o a → Has o (a ++ b)
has-first o [] b h = absurd h
has-first o (x ∷ a) b (inl e) = inl e
has-first o (x ∷ a) b (inr h) = inr (has-first o a b h)

pub has-second : (o : Opening) (a b : List Opening) → Has o b → Has o (a ++ b)
has-second o [] b h = h
has-second o (x ∷ a) b h = inr (has-second o a b h)

pub has-either : (o : Opening) (a b : List Opening) → Has o (a ++ b) → Has o a ⊎ Has o b
has-either o [] b h = inr h
has-either o (x ∷ a) b (inl e) = inl (inl e)
has-either o (x ∷ a) b (inr h) = by (has-either o a b h)
  where
    by : Has o a ⊎ Has o b → ((x ≡ o) ⊎ Has o a) ⊎ Has o b
    by (inl k) = inl (inr k)
    by (inr k) = inr k

-- a transaction of a table has its message, where the table says by which request it began
abbrev pub HasOpening : List Opening → Transaction → Type 0
HasOpening os x = (q : RequestNo) → x.begun ≡ Some q → Has (record { client = x.client; request = q; tid = x.tid }) os

abbrev pub HaveOpenings : List Opening → List Transaction → Type 0
HaveOpenings os [] = Unit {0}
HaveOpenings os (x ∷ xs) = HasOpening os x × HaveOpenings os xs

pub more-openings : (os more : List Opening) (xs : List Transaction) → HaveOpenings os xs → HaveOpenings (os ++ more) xs
more-openings os more [] h = tt
more-openings os more (x ∷ xs) h = (λ q e. has-first _ os more (h.0 q e), more-openings os more xs h.1)
