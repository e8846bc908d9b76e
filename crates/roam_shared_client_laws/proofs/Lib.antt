mod Leading
mod Traces
mod Lists
mod Records
