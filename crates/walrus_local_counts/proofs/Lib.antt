mod LocalLemmas
mod ParamLemmas
