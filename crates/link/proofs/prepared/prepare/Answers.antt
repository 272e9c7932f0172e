-- `link::prepared::prepare` meets its promise. Assumes nothing.
use Rattle.std.proofs.Common.{◌≡◌, Bool, true, List, ℕ, length, sym, ap, ap₂, ◌∙◌, rules}
use Rattle.aes.specs.Under.{cipher_under}
use Rattle.aes.specs.declared.key.RoundKeys.{RoundKeys}
use Rattle.mode.specs.Data.{first_q}
use Rattle.link.specs.Answers.{done}
use Rattle.link.specs.Checks.{known_key}
use Rattle.link.specs.Prepared.{prepared_if, preparation}
use Rattle.link.proofs.Entries.{rounds_in, cipher_is}
use Rattle.link.proofs.prepared.prepare.Goals as goal

pub new-e-requires : goal.new-e-requires
new-e-requires c =
    let known : known_key (length c.args.key.now) ≡ true = search rules in
    rw c.own_keys-keys.ensures (rounds_in c.args.key.now known)

pub returns : goal.returns
unfolding preparation
returns c =
    let key = c.args.key.now in
    let known : known_key (length key) ≡ true = search rules in
    let own = c.own_keys-keys.ensures in
    let mask = c.first_q-runs.ensures in
    let zero_is = mask.block_value ∙ ap (λ (E : List ℕ → List ℕ). first_q E true) (ap cipher_under (c.new-e.ensures ∙ own) ∙ cipher_is key known) in
    ap (λ (n : ℕ). record { answer = done 0 n; key = record { rounds = c.own_keys-keys.result.rounds; words = c.own_keys-keys.result.words; zero = c.first_q-runs.result.value } }) mask.runs_value
    ∙ ap₂ (λ (k : RoundKeys) (z : List ℕ). record { answer = done 0 1; key = record { rounds = k.rounds; words = k.words; zero = z } }) own zero_is
    ∙ sym (ap (λ (b : Bool). prepared_if b key) known)
