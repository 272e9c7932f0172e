-- What a call names of a side, as the definitions have it.
use Rattle.carrying.specs.Checks.{Settings, settings}
use Rattle.carrying.specs.declared.Settings.{Settings as InCode}

abbrev pub named : InCode → Settings
named s = settings s.form s.key.now s.nonce.now s.ad.now
