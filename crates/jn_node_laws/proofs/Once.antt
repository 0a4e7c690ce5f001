-- What frames lead to by the books is one thing.
use Rattle.jn_node_laws.proofs.Common.{◌≡◌, List, [], ◌∷◌, ◌++◌, refl, sym, ◌∙◌, ap, subst, none-some, same_Some, ServerNo, Counts, RowOutcome, Sent, Memory, Message, Framed, server_again, to_itself, to_others, Body, Books, BooksServe, BooksServeAll, BooksSettle, ServeMessage, ServeNone, ServeNudge, ServeOneMore, ServeTimeout, SettleByOwn, SettleByWork, SettleHere, row_by, taken_by, worked_by}
use Rattle.jn_node_laws.proofs.Rooms.{one-row, one-step}

module _ (s : ServerNo) (g : Counts) where
  others-same : (row more : RowOutcome Memory) (sent after : List Sent) → more ≡ row → after ≡ sent → to_others s more.messages ++ after ≡ to_others s row.messages ++ sent
  others-same row more sent after e f = ap (λ (r : RowOutcome Memory). to_others s r.messages ++ after) e ∙ ap (λ (l : List Sent). to_others s row.messages ++ l) f

  settles-once : (b c d : Books) (own : List Message) (sent more : List Sent) → BooksSettle s g b own sent c → BooksSettle s g b own more d → (more ≡ sent) × (d ≡ c)
  settles-once _ _ _ _ _ _ (SettleHere b l none) (SettleHere _ k too) = (refl, refl)
  settles-once _ _ _ _ _ _ (SettleHere b l none) (SettleByWork _ d row more k is rest) = absurd (none-some row (sym none ∙ sym (one-step g b l k) ∙ is))
  settles-once _ _ _ _ _ _ (SettleByWork b c row sent l is rest) (SettleHere _ k none) = absurd (none-some row (sym none ∙ one-step g b l k ∙ is))
  settles-once _ _ _ _ _ _ (SettleByWork b c row sent l is rest) (SettleByWork _ d other more k too after) =
      let same = same_Some other row (sym too ∙ one-step g b l k ∙ is) in
      let again = settles-once (worked_by b row) c d (to_itself s row.messages) sent more rest
      (subst (λ (r : RowOutcome Memory). BooksSettle s g (worked_by b r) (to_itself s r.messages) more d) same after) in
      (others-same row other sent more same again.0, again.1)
  settles-once _ _ _ _ _ _ (SettleByOwn b c m own sent l rest) (SettleByOwn _ d _ _ more k after) =
      let same = one-row g b l k m in
      let again = settles-once (taken_by b (row_by g b l m)) c d (own ++ to_itself s (row_by g b l m).messages) sent more rest
      (subst (λ (r : RowOutcome Memory). BooksSettle s g (taken_by b r) (own ++ to_itself s r.messages) more d) same after) in
      (others-same (row_by g b l m) (row_by g b k m) sent more same again.0, again.1)

  serves-once : (b c d : Books) (body : Body) (sent more : List Sent) → BooksServe s g b body sent c → BooksServe s g b body more d → (more ≡ sent) × (d ≡ c)
  serves-once _ _ _ _ _ _ (ServeMessage b c m sent h) (ServeMessage _ d _ more k) = settles-once b c d (m ∷ []) sent more h k
  serves-once _ _ _ _ _ _ (ServeNudge b c sent h) (ServeNudge _ d more k) =
      let one = settles-once b c d (to_itself s (server_again b.memory b.found)) sent more h k in (ap (λ (l : List Sent). to_others s (server_again b.memory b.found) ++ l) one.0, one.1)
  serves-once _ _ _ _ _ _ (ServeTimeout b c T sent h) (ServeTimeout _ d _ more k) = settles-once _ c d [] sent more h k

  pub all-once : (b c d : Books) (frames : List Framed) (sent more : List Sent) → BooksServeAll s g b frames sent c → BooksServeAll s g b frames more d → (more ≡ sent) × (d ≡ c)
  all-once _ _ _ _ _ _ (ServeNone b) (ServeNone _) = (refl, refl)
  all-once _ _ _ _ _ _ (ServeOneMore b c d f fs sent later h hs) (ServeOneMore _ c' d' _ _ more after k ks) =
      let one = serves-once b c c' f.body sent more h k in
      let rest = all-once c d d' fs later after hs (subst (λ (z : Books). BooksServeAll s g z fs after d') one.1 ks) in
      (ap (λ (l : List Sent). l ++ after) one.0 ∙ ap (λ (l : List Sent). sent ++ l) rest.0, rest.1)
