-- Laws of a buffer in front of a sink.
use Rattle.std.proofs.Common.{◌≡◌, ℕ, List, [], ◌++◌, take, drop, refl, sym, ◌∙◌, ap, subst, append-nil, take-append-drop, Result}
use Rattle.far_io.specs.declared.write_buf.WriteBuf.{WriteBuf}
use Rattle.far_io.specs.Adds.{Adds, AddsPrefix}
use Rattle.far_io.specs.Faults.{Faults, HasCause}
use Rattle.far_io.specs.Sends.{Sends}
use Rattle.far_io.specs.WriteBuf.{BufTook}
use Rattle.far_io.proofs.Adds.{adds_equal}
use Rattle.far_io.proofs.Sends.{sends_nothing, sends_more, prefix_longer, prefix_equal}

module _ {O : Type 0} (took : O → O → List ℕ → Type 0) where
  took_nothing : (buf : WriteBuf O) → BufTook took buf buf []
  took_nothing buf = record { same_sink = refl; sends = sends_nothing took buf.sink.now buf.room.now }

  -- what a buffer took is what went to the sink behind it, and what it holds
  pub buf_took : (begun now : WriteBuf O) (text : List ℕ) → Adds (BufTook took) begun now text → BufTook took begun now text
  buf_took begun now text adds = adds.each begun [] (took_nothing begun)

  -- the buffer went on in front of its sink
  pub buf_adds : (before now : WriteBuf O) (bytes : List ℕ) → now.sink.ghost_name ≡ before.sink.ghost_name
      → Sends took before.sink.now now.sink.now before.room.now now.room.now bytes → Adds (BufTook took) before now bytes
  buf_adds before now bytes same sends = record {
    each = λ begun old so_far. record {
      same_sink = same ∙ so_far.same_sink;
      sends = sends_more took begun.sink.now before.sink.now now.sink.now begun.room.now before.room.now now.room.now old bytes so_far.sends sends;
    };
  }

  -- Of a buffer that held nothing as it was made, in front of a sink that was `first` then and is `last` now.
  module _ (first last : O) (begun now : WriteBuf O) (text : List ℕ) (begun_is : begun.sink.now ≡ first) (now_is : now.sink.now ≡ last) (empty : begun.room.now ≡ []) where
    sent_to : (sent : List ℕ) → Adds took begun.sink.now now.sink.now sent → Adds took first last sent
    sent_to sent adds = subst (λ a. Adds took a last sent) begun_is (subst (λ b. Adds took begun.sink.now b sent) now_is adds)

    -- where it holds nothing now, all that it took went to the sink
    pub all_passed_on : now.room.now ≡ [] → Adds (BufTook took) begun now text → Adds took first last text
    all_passed_on none adds =
        let sends = (buf_took begun now text adds).sends in
        adds_equal took first last sends.sent text
        (sym (append-nil sends.sent) ∙ ap (λ t. sends.sent ++ t) (sym none) ∙ sends.whole ∙ ap (λ t. t ++ text) empty) (sent_to sends.sent sends.adds)

    -- a prefix of what it took went to the sink
    pub prefix_passed_on : Adds (BufTook took) begun now text → AddsPrefix took first last text
    prefix_passed_on adds =
        let sends = (buf_took begun now text adds).sends in
        record { sent = sends.sent; unsent = now.room.now; whole = sends.whole ∙ ap (λ t. t ++ text) empty; adds = sent_to sends.sent sends.adds }

  -- the same after a fault: a prefix of what it was to take went to the sink
  pub part_passed_on : (first last : O) (begun now : WriteBuf O) (text : List ℕ) → begun.sink.now ≡ first → now.sink.now ≡ last → begun.room.now ≡ []
      → AddsPrefix (BufTook took) begun now text → AddsPrefix took first last text
  part_passed_on first last begun now text begun_is now_is empty fault =
      prefix_equal took first last (fault.sent ++ fault.unsent) text fault.whole
      (prefix_longer took first last fault.sent fault.unsent (prefix_passed_on first last begun now fault.sent begun_is now_is empty fault.adds))

  -- the buffer is in front of the same sink
  pub stays_in_front : (begun now : WriteBuf O) (text : List ℕ) → Adds (BufTook took) begun now text → now.sink.ghost_name ≡ begun.sink.ghost_name
  stays_in_front begun now text adds = (buf_took begun now text adds).same_sink

  -- the first bytes of what was held went to the sink
  pub sends_front : (a b : O) (held : List ℕ) (count : ℕ) → Adds took a b (take count held) → Sends took a b held (drop count held) []
  sends_front a b held count adds = record { sent = take count held; adds = adds; whole = take-append-drop count held ∙ sym (append-nil held) }

  -- nothing was held, and these bytes went past the buffer
  pub sends_past : (a b : O) (held bytes : List ℕ) → held ≡ [] → Adds took a b bytes → Sends took a b held held bytes
  sends_past a b held bytes none adds = record { sent = bytes; adds = adds; whole = ap (λ t. bytes ++ t) none ∙ append-nil bytes ∙ ap (λ t. t ++ bytes) (sym none) }

-- the cause of a fault behind a buffer, in terms of its sink as it was first and last
pub cause_passed_on : {O T E : Type 0} (faults : O → Faults) (first last : O) (begun now : WriteBuf O) (result : Result T E) → begun.sink.now ≡ first → now.sink.now ≡ last
    → HasCause (faults begun.sink.now) (faults now.sink.now) result → HasCause (faults first) (faults last) result
cause_passed_on faults first last begun now result begun_is now_is cause =
    subst (λ a. HasCause (faults a) (faults last) result) begun_is (subst (λ b. HasCause (faults begun.sink.now) (faults b) result) now_is cause)
