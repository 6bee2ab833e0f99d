-- A bank with another channel at one link, read by link.
use Rattle.std.proofs.Common.{◌≡◌, ◌≢◌, ℕ, ◌<◌, cond, length, get_or-set_same, get_or-set_other, refl, sym, ap, subst, ◌∙◌, inl, inr, eq-eqb, ne_eqb}
use Rattle.std.proofs.lemmas.Bool.{cases_eq}
use Rattle.list_laws.specs.Lists.{changed}
use Rattle.port_bank.specs.Plain.{Bank, Channel, unused_channel, channel_at, with_channel}

pub changed-here : {X : Type 0} (f : ℕ → X) (l : ℕ) (x : X) → changed f l x l ≡ x
changed-here f l x = ap (λ b. cond b x (f l)) (eq-eqb l l refl)

pub changed-other : {X : Type 0} (f : ℕ → X) (l m : ℕ) (x : X) → m ≢ l → changed f l x m ≡ f m
changed-other f l m x ne = ap (λ b. cond b x (f m)) (ne_eqb m l ne)

module _ (b : Bank) (l : ℕ) (c : Channel) (within : l < length b.channels) where
  pub channel-here : channel_at (with_channel b l c) l ≡ c
  channel-here = get_or-set_same b.channels l c unused_channel within

  pub channel-other : (m : ℕ) → m ≢ l → channel_at (with_channel b l c) m ≡ channel_at b m
  channel-other m ne = get_or-set_other b.channels l m c unused_channel ne

  read_at : {X : Type 0} (f : ℕ → Channel → X) (m : ℕ) → f m (channel_at (with_channel b l c) m) ≡ changed (λ n. f n (channel_at b n)) l (f l c) m
  read_at f m = elim (cases_eq m l) [
    | inl e ↦ subst (λ n. f n (channel_at (with_channel b l c) n) ≡ changed (λ k. f k (channel_at b k)) l (f l c) n) (sym e)
        (ap (f l) channel-here ∙ sym (changed-here (λ k. f k (channel_at b k)) l (f l c)))
    | inr ne ↦ ap (f m) (channel-other m ne) ∙ sym (changed-other (λ k. f k (channel_at b k)) l m (f l c) ne)
  ]

  -- what is read of each link changes at this link alone
  pub read_changed : {X : Type 0} (f : ℕ → Channel → X) → ◌≡◌ {A = ℕ → X} (λ m. f m (channel_at (with_channel b l c) m)) (changed (λ m. f m (channel_at b m)) l (f l c))
  read_changed f = λ i m. read_at f m i

  same_at : {X : Type 0} (f : ℕ → Channel → X) → f l c ≡ f l (channel_at b l) → (m : ℕ) → f m (channel_at (with_channel b l c) m) ≡ f m (channel_at b m)
  same_at f same m = elim (cases_eq m l) [
    | inl e ↦ subst (λ n. f n (channel_at (with_channel b l c) n) ≡ f n (channel_at b n)) (sym e) (ap (f l) channel-here ∙ same)
    | inr ne ↦ ap (f m) (channel-other m ne)
  ]

  -- and nowhere where it is the same there
  pub read_same : {X : Type 0} (f : ℕ → Channel → X) → f l c ≡ f l (channel_at b l)
      → ◌≡◌ {A = ℕ → X} (λ m. f m (channel_at (with_channel b l c) m)) (λ m. f m (channel_at b m))
  read_same f same = λ i m. same_at f same m i
